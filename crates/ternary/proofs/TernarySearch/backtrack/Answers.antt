-- One entry less; the walk ends at the first that is open.
use Rattle.std.proofs.Common.{◌≡◌, ◌-◌, true, false, get_or, pos, nat_abs, sym, ap, ◌∙◌, ⊎_elim, arith, length-set, w32, SFits, rules}
use lib.Signed.{lt_z}
use Rattle.std.proofs.lemmas.Int.{to_z-of_z}
use Rattle.std.proofs.lemmas.Bool.{cases_eq}
use Rattle.assignment.specs.Trail.{is_open}
use Rattle.assignment.proofs.Recorded.{pop_at, pop_free}
use Rattle.ternary.proofs.TernarySearch.backtrack.Goals as goal

pub returns-then-self-p-gt0 : goal.returns-then-self-p-gt0
returns-then-self-p-gt0 c =
    let inv = c.loop-p.invariant in
    let n = c.loop-p.p in
    let vs = c.loop-p.self.values.now in
    let ts = c.args.self.now.trail.now in
    let os = c.args.self.now.decisions.now in
    let v = c.unsigned_abs-v.result in
    let f-t : SFits w32 (get_or c.loop-p.self.trail.now (n - 1) (pos 0)) = search rules in
    let f-o : SFits w32 (get_or c.loop-p.self.decisions.now (n - 1) (pos 0)) = search rules in
    let var : v ≡ nat_abs (get_or ts (n - 1) (pos 0)) = c.unsigned_abs-v.ensures.value ∙ ap nat_abs (to_z-of_z w32 _ f-t) ∙ ap (λ xs. nat_abs (get_or xs (n - 1) (pos 0))) inv.3 in
    let open' : is_open os (n - 1) ≡ true = sym (ap (λ xs. lt_z (pos 0) (get_or xs (n - 1) (pos 0))) inv.4) ∙ sym (ap (lt_z (pos 0)) (to_z-of_z w32 _ f-o)) ∙ c.if-self-p-gt0.true in
    let above = c.loop-p-test.true in
    let low = inv.0 in
    record {
      same = record { clauses = inv.1.clauses; limit = inv.1.limit; vars = inv.1.vars; count = inv.1.count; room = inv.1.room };
      values = length-set vs (v - 1) (pos 0) ∙ inv.2;
      trail = inv.3;
      decisions = inv.4;
      stop = record {
        less = omega (arith, above, low);
        open' = open';
        no_open = λ k a b. inv.6 k (omega (arith, above, a)) b;
        recorded = pop_at vs ts n v above var inv.5;
        unset = pop_free vs ts n v above var inv.5;
      };
    }

pub loop-p-preserved : goal.loop-p-preserved
loop-p-preserved c =
    let inv = c.loop-p.invariant in
    let n = c.loop-p.p in
    let vs = c.loop-p.self.values.now in
    let ts = c.args.self.now.trail.now in
    let os = c.args.self.now.decisions.now in
    let v = c.unsigned_abs-v.result in
    let f-t : SFits w32 (get_or c.loop-p.self.trail.now (n - 1) (pos 0)) = search rules in
    let f-o : SFits w32 (get_or c.loop-p.self.decisions.now (n - 1) (pos 0)) = search rules in
    let var : v ≡ nat_abs (get_or ts (n - 1) (pos 0)) = c.unsigned_abs-v.ensures.value ∙ ap nat_abs (to_z-of_z w32 _ f-t) ∙ ap (λ xs. nat_abs (get_or xs (n - 1) (pos 0))) inv.3 in
    let no-open' : is_open os (n - 1) ≡ false = sym (ap (λ xs. lt_z (pos 0) (get_or xs (n - 1) (pos 0))) inv.4) ∙ sym (ap (lt_z (pos 0)) (to_z-of_z w32 _ f-o)) ∙ c.if-self-p-gt0.false in
    let above = c.loop-p-test.true in
    let low = inv.0 in (
      omega (arith, low),
      record { clauses = inv.1.clauses; limit = inv.1.limit; vars = inv.1.vars; count = inv.1.count; room = inv.1.room },
      length-set vs (v - 1) (pos 0) ∙ inv.2,
      inv.3,
      inv.4,
      pop_at vs ts n v above var inv.5,
      λ k a b. ⊎_elim (λ (e : k ≡ n - 1). ap (is_open os) e ∙ no-open') (λ (ne : k ≡ n - 1 → ⊥). inv.6 k (omega (arith, above, a, ne)) b) (cases_eq k (n - 1)),
    )
