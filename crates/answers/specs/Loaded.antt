-- A solver that holds a list of clauses, and the sets that its rows mark.
--   Filled      a solver of these sizes with these variables in use and just these clauses, as they were handed over
--   Loaded      the same by the clauses as the formula has them
--   NeverOff    no allowed row has a variable off
--   SomeOff     some allowed row has
--   OffAnswer   what an answer to the question whether a row has it off says
--   Fewest      the fewest marks that an allowed row has, by the counts of the last gate
--   FewestOf    the answer to this: so many, or none where no row has at most N
--   Low         at each gate that is left out, no allowed row with a variable off agrees before the gate and marks it
--   Found       the row shown marks just a set, and this is the lowest there is with that variable off
use Rattle.std.specs.Prelude.{◌≡◌, ℕ, suc, ◌+◌, ◌<◌, ◌≤◌, Bool, true, false, List, ℤ, Some, None, Option, ◌≢◌}
use Rattle.diagnosis.specs.Marked.{marked}
use Rattle.solver.specs.Rows.{Row}
use Rattle.solver.specs.Meaning.{Meaning, Sizes}
use Rattle.cnf_theory.specs.Literals.{Clause, Holds}
use Rattle.cnf_theory.specs.Variables.{count_variable}
use Rattle.cnf_theory.specs.Sizes.{prices}
use Rattle.answers.specs.Fed.{every_true}

pub record Filled (z : Sizes) (V : ℕ) (cs : List (List ℤ)) (m : Meaning) : Type 0 where
  pub sizes : m.sizes ≡ z
  pub vars : m.vars ≡ V
  pub only : (row : Row) → m.allowed row → every_true row cs ≡ true
  pub each : (row : Row) → every_true row cs ≡ true → m.allowed row
  pub room : m.room + prices cs ≡ z.full

pub record Loaded (z : Sizes) (V : ℕ) (cs : List Clause) (m : Meaning) : Type 0 where
  pub sizes : m.sizes ≡ z
  pub vars : m.vars ≡ V
  pub only : (row : Row) → m.allowed row → Holds row cs
  pub each : (row : Row) → Holds row cs → m.allowed row
  pub room : m.room + prices cs ≡ z.full

abbrev pub NeverOff : Meaning → ℕ → Type 0
NeverOff m v = (row : Row) → m.allowed row → row v ≢ false

abbrev pub SomeOff : Meaning → ℕ → Type 0
SomeOff m v = (row : Row) × m.allowed row × (row v ≡ false)

abbrev pub OffAnswer : Meaning → ℕ → Bool → Option Row → Type 0
OffAnswer m v true shown = SomeOff m v
OffAnswer m v false shown = NeverOff m v × (shown ≡ None)

pub record Fewest (m : Meaning) (G N k : ℕ) : Type 0 where
  pub within : k ≤ N
  pub some : SomeOff m (count_variable G N G (suc k))
  pub fewer : (j : ℕ) → suc j ≡ k → NeverOff m (count_variable G N G (suc j))

abbrev pub FewestOf : Meaning → ℕ → ℕ → Option ℕ → Option Row → Type 0
FewestOf m G N (Some k) shown = Fewest m G N k
FewestOf m G N None shown = NeverOff m (count_variable G N G (suc N)) × (shown ≡ None)

abbrev pub Low : Meaning → ℕ → ℕ → (ℕ → Bool) → Type 0
Low m v n d = (g : ℕ) → 1 ≤ g → g ≤ n → d g ≡ false → (row : Row) → m.allowed row → row v ≡ false → ((i : ℕ) → 1 ≤ i → i < g → row i ≡ d i) → row g ≢ true

pub record Found (m : Meaning) (v G : ℕ) (S : List ℕ) (n : Meaning) : Type 0 where
  pub row : Row
  pub shown : n.shown ≡ Some row
  pub allowed : m.allowed row
  pub off : row v ≡ false
  pub marks : marked row G ≡ S
  pub low : Low m v G row
