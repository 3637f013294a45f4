-- The questions put to a solver's calls, and the refusals that answer them with a no.
--   number          the number of each refusal
--   refusal         the number that a call was refused with, if it was
--   asked           a question with its number, and the questions after it: the number of the first that is answered with a no
--   begin_refusal   the questions put to begin, to add, to solve and to value, in their order
--   Shows           the value told is that of the row shown
use Rattle.std.specs.Prelude.{◌≡◌, ℕ, Bool, cond, ◌&&◌, List, length, ℤ, is_some, Some, None, Ok, Err, Option, Result, nat_le, nat_lt}
use Rattle.solver.specs.declared.fault.SolverFault.{SolverFault}
use Rattle.solver.specs.declared.fault.SolverFault.TheVariants.{TooManyVariables, UnknownVariable, TooLong, NoRoom, NoValue}
use Rattle.solver.specs.Rows.{Row, all_named, price}
use Rattle.solver.specs.Meaning.{Meaning}

abbrev pub number : SolverFault → ℕ
number TooManyVariables = 20
number UnknownVariable = 21
number TooLong = 22
number NoRoom = 23
number NoValue = 24

abbrev pub refusal : {X : Type 0} → Result X SolverFault → Option ℕ
refusal (Ok x) = None
refusal (Err e) = Some (number e)

abbrev pub asked : ℕ → Bool → Option ℕ → Option ℕ
asked n answer rest = cond answer rest (Some n)

-- 20: are so many variables within the capacity?
abbrev pub begin_refusal : Meaning → ℕ → Option ℕ
begin_refusal m vars = asked 20 (nat_le vars m.sizes.capacity) None

-- 22: is the clause within the width? 21: is each literal's variable in use? 23: is the price within the room?
abbrev pub add_refusal : Meaning → List ℤ → Option ℕ
add_refusal m c = asked 22 (nat_le (length c) m.sizes.width) (asked 21 (all_named m.vars c) (asked 23 (nat_le (price (length c)) m.room) None))

-- 21: is each literal's variable in use?
abbrev pub solve_refusal : Meaning → List ℤ → Option ℕ
solve_refusal m a = asked 21 (all_named m.vars a) None

-- 24: is a row shown, and is the variable in use?
abbrev pub value_refusal : Meaning → ℕ → Option ℕ
value_refusal m v = asked 24 (is_some m.shown && (nat_lt 0 v && nat_le v m.vars)) None

abbrev pub Shows : Option Row → ℕ → Bool → Type 0
Shows None v b = ⊥
Shows (Some row) v b = b ≡ row v
