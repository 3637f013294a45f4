-- Each literal joins the masks.
use Rattle.std.proofs.Common.{◌≡◌, ℕ, [], subst, ◌^◌, true, ◌||◌, get_or, pos, sym, ap, ◌∙◌, w32, SFits, rules}
use Rattle.std.proofs.lemmas.Nat.{pow_pos}
use Rattle.std.proofs.lemmas.Int.{to_z-of_z}
use Rattle.std.proofs.lemmas.Bool.{and_from, lt-ltb}
use Rattle.solver.specs.Rows.{named, holds}
use Rattle.std.proofs.lemmas.List.Folds.{list_any_more}
use Rattle.solver.proofs.Lists.{all_at}
use Rattle.row_walker.specs.Masks.{meets, inverse, clause_true, Means}
use Rattle.row_walker.specs.declared.clause.Clause.{Clause}
use Rattle.row_walker.proofs.Bits.{meets_none}
use Rattle.row_walker.proofs.clause.Clause.of.Goals as goal

abbrev none : Clause
none = record { positive = 0; negative = 0 }

-- the clause of no literal says nothing
no_literal : (vars : ℕ) → Means vars [] none
no_literal vars = record {
  inside = and_from _ _ (lt-ltb 0 (2 ^ vars) (pow_pos vars)) (lt-ltb 0 (2 ^ vars) (pow_pos vars));
  says = λ row. ap (λ b. b || meets 0 32 0 (inverse row)) (meets_none 0 32 row) ∙ meets_none 0 32 (inverse row);
}

pub loop-literal-init : goal.loop-literal-init
loop-literal-init c vars known = let e : c.default-clause.result ≡ none = search rules in subst (Means vars []) (sym e) (no_literal vars)

pub loop-literal-preserved : goal.loop-literal-preserved
loop-literal-preserved c vars known =
    let xs = c.args.literals.now in
    let i = c.loop-literal.literal-index in
    let x = get_or xs i (pos 0) in
    let fits : SFits w32 x = search rules in
    let same = to_z-of_z w32 x fits in
    let here : named vars x ≡ true = all_at (named vars) xs i (pos 0) c.loop-literal-test.true known in
    let there = ap (named vars) same ∙ here in
    let h = c.loop-literal.invariant vars known in
    record {
      inside = c.with-clause.ensures.inside vars there h.inside;
      says = λ row. c.with-clause.ensures.says row
          ∙ ap (λ b. clause_true row c.loop-literal.clause || holds row b) same
          ∙ ap (λ b. b || holds row x) (h.says row)
          ∙ sym (list_any_more (holds row) xs i (pos 0) c.loop-literal-test.true);
    }
