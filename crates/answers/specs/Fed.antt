-- Clauses handed to a solver one after another.
--   every_true   whether each clause of a list has a true literal in a row
--   fitting      whether a solver of this width, with these variables in use, takes a clause
--   Fits         it takes all of them, and has the room
--   Narrowed     what adding them all makes of its meaning
--   Fed          a solver that they fit has become so
use Rattle.std.specs.Prelude.{◌≡◌, ℕ, ◌+◌, ◌≤◌, Bool, true, ◌&&◌, List, length, ℤ, nat_le}
use Rattle.std.specs.List.{list_all}
use Rattle.solver.specs.Rows.{Row, some_true, all_named}
use Rattle.solver.specs.Meaning.{Meaning}
use Rattle.cnf_theory.specs.Sizes.{prices}

abbrev pub every_true : Row → List (List ℤ) → Bool
every_true row = list_all (some_true row)

abbrev pub fitting : ℕ → ℕ → List ℤ → Bool
fitting width vars c = nat_le (length c) width && all_named vars c

pub record Fits (m : Meaning) (cs : List (List ℤ)) : Type 0 where
  pub each : list_all (fitting m.sizes.width m.vars) cs ≡ true
  pub room : prices cs ≤ m.room

pub record Narrowed (m : Meaning) (cs : List (List ℤ)) (n : Meaning) : Type 0 where
  pub sizes : n.sizes ≡ m.sizes
  pub vars : n.vars ≡ m.vars
  pub only : (row : Row) → n.allowed row → m.allowed row × (every_true row cs ≡ true)
  pub each : (row : Row) → m.allowed row → every_true row cs ≡ true → n.allowed row
  pub room : n.room + prices cs ≡ m.room

pub record Fed (m : Meaning) (cs : List (List ℤ)) (n : Meaning) : Type 0 where
  pub narrowed : Fits m cs → Narrowed m cs n
