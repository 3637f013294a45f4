-- Partial assignments, kept as a number for each variable.
--   val       what is kept of variable v: above 0 for true, below 0 for false, 0 for unset
--   row_of    the row of an assignment, in which unset variables are 0
--   Extends   a row has the values that are set
--   Free      a literal of a variable that is unset
use Rattle.std.specs.Prelude.{◌≡◌, ℕ, ◌-◌, ◌≤◌, true, false, List, length, ℤ, pos, int_lt, slice_index_or, unsigned_abs}
use Rattle.solver.specs.Rows.{Row}

abbrev pub val : List ℤ → ℕ → ℤ
val vs v = slice_index_or vs (v - 1) (pos 0)

abbrev pub row_of : List ℤ → Row
row_of vs v = int_lt (pos 0) (val vs v)

abbrev pub Extends : Row → List ℤ → Type 0
Extends row vs = (v : ℕ) → 1 ≤ v → (int_lt (pos 0) (val vs v) ≡ true → row v ≡ true) × (int_lt (val vs v) (pos 0) ≡ true → row v ≡ false)

pub record Free (vs : List ℤ) (x : ℤ) : Type 0 where
  pub some : 1 ≤ unsigned_abs x
  pub within : unsigned_abs x ≤ length vs
  pub unset : val vs (unsigned_abs x) ≡ pos 0
