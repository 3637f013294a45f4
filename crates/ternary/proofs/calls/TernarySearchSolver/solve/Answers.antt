-- What the search found answers the question, and the clauses stay.
use Rattle.std.proofs.Common.{ℕ, List, ℤ, sym, ap, subst}
use Rattle.solver.specs.Meaning.{Sizes}
use Rattle.solver.proofs.Refusals.{solve_accepted}
use Rattle.assignment.specs.Stored.{StoredTrue}
use Rattle.ternary.specs.Stands.{stands}
use Rattle.ternary.proofs.Turns.{answered}
use Rattle.ternary.proofs.calls.TernarySearchSolver.solve.Goals as goal

pub returns : goal.returns
returns c =
    let w = c.args.self.now in
    let t = c.search-found.new.self in
    let g = c.search-found.ensures.sound in
    let e = c.search-found.ensures.same in
    let known = sym c.if-not-all_named.ensures in
    let size = λ (n : ℕ). let z : Sizes = record { capacity = n; width = 3; full = n } in z in
    record {
      refused = solve_accepted (stands w) c.args.assumed.now known;
      cases = record {
        kept = record {
          sizes = ap size e.limit;
          vars = e.vars;
          only = λ row h. subst (λ (xs : List ℤ). StoredTrue row xs w.count) e.clauses (subst (λ (n : ℕ). StoredTrue row t.clauses.now n) e.count h);
          each = λ row h. subst (λ (n : ℕ). StoredTrue row t.clauses.now n) (sym e.count) (subst (λ (xs : List ℤ). StoredTrue row xs w.count) (sym e.clauses) h);
          room = e.room;
        };
        answered = answered w c.args.assumed.now t.values.now c.search-found.result c.search-found.ensures.answer;
      };
      sound = record {
        clauses_len = g.clauses_len;
        values_len = g.values_len;
        trail_len = g.trail_len;
        decisions_len = g.decisions_len;
        counts = g.counts;
        in_range = g.in_range;
        small = g.small;
        literals = g.literals;
      };
    }
