-- The clauses with one more in use allow the rows in which it is true, and stay in range.
use Rattle.std.proofs.Common.{◌≡◌, ◌+◌, ◌*◌, ◌≤◌, List, length, ℤ, sym, refl, ap, ◌∙◌, subst, arith, rules}
use Rattle.std.proofs.lemmas.Bool.Decides.{nat_tests}
use Rattle.solver.specs.Rows.{price}
use Rattle.solver.proofs.Refusals.{add_accepted}
use Rattle.assignment.specs.Stored.{StoredTrue, triple_set, Ranged}
use Rattle.ternary.specs.Stands.{stands}
use Rattle.assignment.proofs.Stored.{only, each, ranged_more, length_triple}
use Rattle.ternary.proofs.calls.TernarySearchSolver.add.Goals as goal

pub returns : goal.returns
returns c =
    let w = c.args.self.now in
    let sound = c.requires in
    let cl = c.args.clause.now in
    let xs = w.clauses.now in
    let same : c.store_clause.new.places ≡ triple_set xs (3 * w.count) cl = c.store_clause.ensures in
    let some-room : 1 ≤ w.room = search rules in
    let within : 3 * w.count + 3 ≤ length xs = omega (arith, sound.clauses_len, sound.counts, some-room) in
    let short : length cl ≤ 3 = omega (arith, c.if-clause-width.false, c.width.ensures) in
    let known = sym c.if-not-all_named.ensures in
    let one : price (length cl) ≡ 1 = grind (arith, nat_tests) in
    record {
      refused = add_accepted (stands w) cl short known (omega (arith, one, some-room));
      cases = record {
        sizes = refl;
        vars = refl;
        only = λ row h. only w.vars row xs w.count cl within short known (subst (λ (ys : List ℤ). StoredTrue row ys (w.count + 1)) same h);
        each = λ row h t. subst (λ (ys : List ℤ). StoredTrue row ys (w.count + 1)) (sym same) (each w.vars row xs w.count cl within short known h t);
        room = omega (arith, one, some-room);
        shown = refl;
      };
      sound = record {
        clauses_len = ap length same ∙ length_triple xs (3 * w.count) cl ∙ sound.clauses_len;
        values_len = sound.values_len;
        trail_len = sound.trail_len;
        decisions_len = sound.decisions_len;
        counts = omega (arith, sound.counts, some-room);
        in_range = sound.in_range;
        small = sound.small;
        literals = subst (λ (ys : List ℤ). Ranged ys (w.count + 1) w.vars) (sym same) (ranged_more w.vars xs w.count cl within known sound.literals);
      };
    }
