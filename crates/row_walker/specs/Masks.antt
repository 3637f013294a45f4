-- Clauses kept as masks, and the row that a number stands for.
--   odd           whether the lowest bit of a number is set
--   row_of        the row of a number: variable v has the bit v - 1
--   inverse       the row with every value turned
--   meets         whether some variable of a mask is 1 in a row, the mask's k bits standing for the variables after v
--   clause_true   whether a clause is true in a row: a variable of its positive mask is 1 there, or one of its negative mask 0
--   within        a clause has only variables in 1 to vars
--   Means         a clause has only variables in 1 to vars, and says what a list of literals says
--   Found         the number of a row that the clauses allow and that has each assumed literal true, or none if there is none
use Rattle.std.specs.Prelude.{◌≡◌, ℕ, zero, suc, ◌-◌, ◌/◌, ◌%◌, ◌^◌, ◌<◌, Bool, true, false, not, ◌&&◌, ◌||◌, List, ℤ, Some, None, Option, ◌==◌, ◌≢◌, nat_lt}
use Rattle.std.specs.List.{list_all}
use Rattle.solver.specs.Rows.{Row, some_true, all_true}
use Rattle.row_walker.specs.declared.clause.Clause.{Clause}

abbrev pub odd : ℕ → Bool
odd n = n % 2 == 1

abbrev pub row_of : ℕ → Row
row_of n v = odd (n / 2 ^ (v - 1))

abbrev pub inverse : Row → Row
inverse row v = not (row v)

unfoldable pub meets : ℕ → ℕ → ℕ → Row → Bool
meets v zero mask row = false
meets v (suc k) mask row = (odd mask && row (suc v)) || meets (suc v) k (mask / 2) row

abbrev pub clause_true : Row → Clause → Bool
clause_true row c = meets 0 32 c.positive row || meets 0 32 c.negative (inverse row)

abbrev pub within : ℕ → Clause → Bool
within vars c = nat_lt c.positive (2 ^ vars) && nat_lt c.negative (2 ^ vars)

pub record Means (vars : ℕ) (literals : List ℤ) (c : Clause) : Type 0 where
  pub inside : within vars c ≡ true
  pub says : (row : Row) → clause_true row c ≡ some_true row literals

abbrev pub Found : ℕ → List Clause → List ℤ → Option ℕ → Type 0
Found vars cs a None = (n : ℕ) → n < 2 ^ vars → list_all (clause_true (row_of n)) cs ≡ true → all_true (row_of n) a ≢ true
Found vars cs a (Some n) = (list_all (clause_true (row_of n)) cs ≡ true) × (all_true (row_of n) a ≡ true)
