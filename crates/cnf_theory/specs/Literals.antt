-- Literals, clauses, and the rows that make them true.
--   Row            a value for each variable, numbered from 1
--   Literal        a variable or its negation
--   signed         the literal of a variable that is true where the variable has a value
--   Clause         literals, of which one has to be true
--   true_in        whether a literal is true in a row
--   some_true_in   whether a clause has a literal that is true in a row
--   Holds          each clause of a list has one
--   variable_of the variable of a literal
--   integer    a literal as a signed number, v or -v
--   integers   clauses as lists of these
use Rattle.std.specs.Prelude.{◌≡◌, ℕ, Bool, true, false, not, ◌||◌, List, [], ◌∷◌, map, ℤ, pos, neg_ℤ}

abbrev pub Row : Type 0
Row = ℕ → Bool

pub data Literal : Type 0 where
  positive negative : ℕ → Literal

abbrev pub signed : Bool → ℕ → Literal
signed true v = positive v
signed false v = negative v

abbrev pub Clause : Type 0
Clause = List Literal

abbrev pub true_in : Row → Literal → Bool
true_in ρ (positive v) = ρ v
true_in ρ (negative v) = not (ρ v)

abbrev pub some_true_in : Row → Clause → Bool
some_true_in ρ [] = false
some_true_in ρ (x ∷ xs) = true_in ρ x || some_true_in ρ xs

abbrev pub Holds : Row → List Clause → Type 0
Holds ρ [] = Unit {0}
Holds ρ (c ∷ cs) = (some_true_in ρ c ≡ true) × Holds ρ cs

abbrev pub variable_of : Literal → ℕ
variable_of (positive v) = v
variable_of (negative v) = v

abbrev pub integer : Literal → ℤ
integer (positive v) = pos v
integer (negative v) = neg_ℤ (pos v)

abbrev pub integers : List Clause → List (List ℤ)
integers cs = map (map integer) cs
