-- What a solver stands for, and what each accepted call makes of it.
--   Sizes      the capacity in variables, the width of a clause and the full room: told and fixed
--   Meaning    the sizes, the variables in use, the rows allowed, the room left, and the row shown or none
--   Bounded    a meaning within its sizes, whose sizes fit literals and clauses of three
--   Begun      what begin makes of a meaning: every row is allowed, all the room is left, no row is shown
--   New        the meaning of a new solver: that after a begin with no variables
--   Added      what add makes of it: the rows left are those where a literal of the clause is true
--   Kept       the variables, the rows and the room stay
--   Answered   what an answer says: yes shows an allowed row with each assumed literal true, no says that there is none
--   Solved     what solve makes of it
use Rattle.std.specs.Prelude.{◌≡◌, ℕ, ◌+◌, ◌≤◌, Bool, true, false, List, length, ℤ, Some, None, Option, ◌≢◌}
use Rattle.solver.specs.Rows.{Row, some_true, all_true, price}

pub record Sizes : Type 0 where
  pub capacity : ℕ
  pub width : ℕ
  pub full : ℕ

pub record Meaning : Type 1 where
  pub sizes : Sizes
  pub vars : ℕ
  pub allowed : Row → Type 0
  pub room : ℕ
  pub shown : Option Row

pub record Bounded (m : Meaning) : Type 0 where
  pub wide : 3 ≤ m.sizes.width
  pub capacity : m.sizes.capacity ≤ 2147483647
  pub vars : m.vars ≤ m.sizes.capacity
  pub room : m.room ≤ m.sizes.full

pub record Begun (m : Meaning) (v : ℕ) (n : Meaning) : Type 0 where
  pub sizes : n.sizes ≡ m.sizes
  pub vars : n.vars ≡ v
  pub every : (row : Row) → n.allowed row
  pub room : n.room ≡ m.sizes.full
  pub shown : n.shown ≡ None

abbrev pub New : Meaning → Type 0
New m = Begun m 0 m

pub record Added (m : Meaning) (c : List ℤ) (n : Meaning) : Type 0 where
  pub sizes : n.sizes ≡ m.sizes
  pub vars : n.vars ≡ m.vars
  pub only : (row : Row) → n.allowed row → m.allowed row × (some_true row c ≡ true)
  pub each : (row : Row) → m.allowed row → some_true row c ≡ true → n.allowed row
  pub room : n.room + price (length c) ≡ m.room
  pub shown : n.shown ≡ None

pub record Kept (m : Meaning) (n : Meaning) : Type 0 where
  pub sizes : n.sizes ≡ m.sizes
  pub vars : n.vars ≡ m.vars
  pub only : (row : Row) → n.allowed row → m.allowed row
  pub each : (row : Row) → m.allowed row → n.allowed row
  pub room : n.room ≡ m.room

abbrev pub Answered : Meaning → List ℤ → Bool → Option Row → Type 0
Answered m a true None = ⊥
Answered m a true (Some row) = m.allowed row × (all_true row a ≡ true)
Answered m a false None = (row : Row) → m.allowed row → all_true row a ≢ true
Answered m a false (Some row) = ⊥

pub record Solved (m : Meaning) (a : List ℤ) (answer : Bool) (n : Meaning) : Type 0 where
  pub kept : Kept m n
  pub answered : Answered m a answer n.shown
