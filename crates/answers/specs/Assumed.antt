-- The literals assumed while the lowest set is looked for: first that a count is off, then each gate's mark with the sign that was found.
--   sign      whether a literal is a variable and not its negation
--   decided   the sign found for a gate
--   Tried     what an answer says of literals and one more gate's mark
--   Assumed   the first n gates are decided: an allowed row agrees with them, and none is lower
use Rattle.std.specs.Prelude.{◌≡◌, ℕ, ◌≤◌, Bool, true, false, List, get_or, ℤ, pos, negsuc, ◌≢◌, slice_index_or}
use Rattle.solver.specs.Rows.{Row, all_true}
use Rattle.solver.specs.Meaning.{Meaning}
use Rattle.cnf_theory.specs.Literals.{negative, signed, integer}
use Rattle.answers.specs.Loaded.{Low}

abbrev pub sign : ℤ → Bool
sign (pos n) = true
sign (negsuc n) = false

abbrev pub decided : List ℤ → ℕ → Bool
decided xs g = sign (slice_index_or xs g (pos 0))

abbrev pub Tried : Meaning → List ℤ → ℕ → Bool → Type 0
Tried m xs g true = (row : Row) × m.allowed row × (all_true row xs ≡ true) × (row g ≡ true)
Tried m xs g false = (row : Row) → m.allowed row → all_true row xs ≡ true → row g ≢ true

pub record Assumed (m : Meaning) (v n : ℕ) (xs : List ℤ) : Type 0 where
  pub off : get_or xs 0 (pos 0) ≡ integer (negative v)
  pub signs : (i : ℕ) → 1 ≤ i → i ≤ n → slice_index_or xs i (pos 0) ≡ integer (signed (decided xs i) i)
  pub row : (row : Row) × m.allowed row × (row v ≡ false) × ((i : ℕ) → 1 ≤ i → i ≤ n → row i ≡ decided xs i)
  pub low : Low m v n (decided xs)
