-- Rows of values, and what literals say of them.
--   Row                   a value for each variable, numbered from 1
--   holds                 whether a literal, v or -v, is true in a row
--   some_true, all_true   whether some literal of a clause, or each assumed literal, is true in a row
--   named, all_named      whether a literal's variable, or each one's, is in 1 to vars
--   price                 what a clause of so many literals takes of the room
--   Agree                 two rows have the same values at the variables 1 to vars
use Rattle.std.specs.Prelude.{◌≡◌, ℕ, suc, ◌-◌, ◌≤◌, Bool, cond, not, ◌&&◌, List, ℤ, pos, negsuc, nat_le, nat_lt, unsigned_abs}
use Rattle.std.specs.List.{list_all, list_any}

abbrev pub Row : Type 0
Row = ℕ → Bool

abbrev pub holds : Row → ℤ → Bool
holds row (pos n) = row n
holds row (negsuc n) = not (row (suc n))

abbrev pub some_true : Row → List ℤ → Bool
some_true row = list_any (holds row)

abbrev pub all_true : Row → List ℤ → Bool
all_true row = list_all (holds row)

abbrev pub named : ℕ → ℤ → Bool
named vars x = nat_lt 0 (unsigned_abs x) && nat_le (unsigned_abs x) vars

abbrev pub all_named : ℕ → List ℤ → Bool
all_named vars = list_all (named vars)

-- 1 up to three literals, otherwise two less than their number: so many clauses of three literals say the same
abbrev pub price : ℕ → ℕ
price n = cond (nat_le n 3) 1 (n - 2)

abbrev pub Agree : ℕ → Row → Row → Type 0
Agree vars a b = (v : ℕ) → 1 ≤ v → v ≤ vars → a v ≡ b v
