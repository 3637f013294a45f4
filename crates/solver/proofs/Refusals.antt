-- A call to which each question is answered with a yes is not refused.
use Rattle.std.proofs.Common.{◌≡◌, ℕ, ◌≤◌, true, List, length, ℤ, None, sym, ◌∙◌}
use Rattle.std.proofs.lemmas.Bool.{cond-true, le-leb}
use Rattle.solver.specs.Rows.{all_named, price}
use Rattle.solver.specs.Meaning.{Meaning}
use Rattle.solver.specs.Refusals.{begin_refusal, add_refusal, solve_refusal}

pub begin_accepted : (m : Meaning) (v : ℕ) → v ≤ m.sizes.capacity → None ≡ begin_refusal m v
begin_accepted m v h = sym (cond-true _ _ _ (le-leb _ _ h))

pub add_accepted : (m : Meaning) (c : List ℤ) → length c ≤ m.sizes.width → all_named m.vars c ≡ true → price (length c) ≤ m.room → None ≡ add_refusal m c
add_accepted m c w k p = sym (cond-true _ _ _ (le-leb _ _ w) ∙ cond-true _ _ _ k ∙ cond-true _ _ _ (le-leb _ _ p))

pub solve_accepted : (m : Meaning) (a : List ℤ) → all_named m.vars a ≡ true → None ≡ solve_refusal m a
solve_accepted m a k = sym (cond-true _ _ _ k)
