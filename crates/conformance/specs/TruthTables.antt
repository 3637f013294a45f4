-- What a truth table of 10 variables says of the calls that a solver takes.
--   row_of          the row of a number: variable v has the bit v - 1
--   true_in         whether a literal of the variables 1 to 10 is true in the row of a number
--   sizes_of        the sizes that the table was made with
--   allowed_at      whether the row of a number is allowed
--   add_asked       the number of the first question that a clause is answered with a no, if any
--   value_asked     the same for the value of a variable
--   may_show        whether a row may be shown: an allowed one with each assumed literal true, or none
--   IsFresh         so many variables are in use, every row is allowed, all the room is left, and no row is shown
--   AddsClause      the rows left are those where a literal of the clause is true; the room falls by its price
--   IsSatisfiable   some allowed row has each assumed literal true
--   SameTable       the sizes, the variables, the rows and the room are the same
use Rattle.std.specs.Prelude.{◌≡◌, ℕ, ◌+◌, ◌-◌, ◌/◌, ◌%◌, ◌^◌, ◌<◌, Bool, true, false, ◌&&◌, List, length, is_some, Some, None, Option, ◌==◌, ℤ, nat_le, nat_lt, slice_index_or}
use Rattle.std.specs.List.{list_all, list_any}
use Rattle.solver.specs.Rows.{Row, holds, named, all_named, price}
use Rattle.solver.specs.Meaning.{Sizes}
use Rattle.solver.specs.Refusals.{asked}
use Rattle.conformance.specs.declared.model.Model.{Model}

abbrev pub row_of : ℕ → Row
row_of n v = n / 2 ^ (v - 1) % 2 == 1

abbrev pub true_in : ℕ → ℤ → Bool
true_in n x = named 10 x && holds (row_of n) x

abbrev pub sizes_of : Model → Sizes
sizes_of m = record { capacity = m.capacity; width = m.width; full = m.full }

abbrev pub allowed_at : Model → ℕ → Bool
allowed_at m n = slice_index_or m.allowed n false

-- 22: is the clause within the width? 21: is each literal's variable in use? 23: is the price within the room?
abbrev pub add_asked : Model → List ℤ → Option ℕ
add_asked m c = asked 22 (nat_le (length c) m.width) (asked 21 (all_named m.vars c) (asked 23 (nat_le (price (length c)) m.room) None))

-- 24: is a row shown, and is the variable in use and one of the table's?
abbrev pub value_asked : Model → ℕ → Option ℕ
value_asked m v = asked 24 (is_some m.shown && (nat_lt 0 v && (nat_le v m.vars && nat_le v 10))) None

abbrev pub may_show : Model → Option ℕ → List ℤ → Bool
may_show m None a = true
may_show m (Some n) a = allowed_at m n && list_all (true_in n) a

pub record IsFresh (v : ℕ) (m : Model) : Type 0 where
  pub vars : m.vars ≡ v
  pub room : m.room ≡ m.full
  pub every : (n : ℕ) → n < 1024 → allowed_at m n ≡ true
  pub shown : m.shown ≡ None

pub record AddsClause (old new : Model) (c : List ℤ) : Type 0 where
  pub vars : new.vars ≡ old.vars
  pub room : new.room + price (length c) ≡ old.room
  pub rows : (n : ℕ) → n < 1024 → allowed_at new n ≡ (allowed_at old n && list_any (true_in n) c)
  pub shown : new.shown ≡ None

abbrev pub IsSatisfiable : Model → List ℤ → Type 0
IsSatisfiable m a = (n : ℕ) × (n < 1024) × (allowed_at m n ≡ true) × (list_all (true_in n) a ≡ true)

pub record SameTable (old new : Model) : Type 0 where
  pub sizes : sizes_of new ≡ sizes_of old
  pub vars : new.vars ≡ old.vars
  pub allowed : new.allowed ≡ old.allowed
  pub room : new.room ≡ old.room
