-- What the formula says.
--   MarksJust         a row has just these marks at the gates 1 to n
--   SaysExplains      a row of the formula with just these marks exists exactly if at most N gates are marked and they explain every test
--   CountsTo          the same with the count k + 1 at the last gate assumed not to be reached: exactly if at most k are marked and they explain
--   WithinVariables   each literal's variable is in 1 to the number of variables
--   NineAtMost        no clause has more than nine literals
use Rattle.std.specs.Prelude.{◌≡◌, ℕ, suc, ◌≤◌, false, ◌↔◌, List, length}
use Rattle.std.specs.List.{AllByRecursion}
use Rattle.circuit.specs.Circuits.{Circuit, Sound}
use Rattle.circuit.specs.Tests.{Test, FitsTest}
use Rattle.diagnosis.specs.Sets.{Marks}
use Rattle.diagnosis.specs.Explains.{ExplainsCase}
use Rattle.diagnosis.specs.Marked.{count}
use Rattle.cnf_theory.specs.Literals.{Row, Literal, Clause, Holds, variable_of}
use Rattle.cnf_theory.specs.Variables.{count_variable, variables}
use Rattle.cnf_theory.specs.Formula.{formula}

abbrev pub MarksJust : ℕ → Marks → Row → Type 0
MarksJust n s ρ = (g : ℕ) → 1 ≤ g → g ≤ n → ρ g ≡ s g

abbrev pub SaysExplains : Type 0
SaysExplains =
    (c : Circuit) (ts : List Test) (N : ℕ) (s : Marks) → Sound c → AllByRecursion (FitsTest c) ts
    → ((ρ : Row) × MarksJust (length c.gates) s ρ × Holds ρ (formula c ts N)) ↔ ((count s (length c.gates) ≤ N) × ExplainsCase c s ts)

abbrev pub CountsTo : Type 0
CountsTo =
    (c : Circuit) (ts : List Test) (N k : ℕ) (s : Marks) → Sound c → AllByRecursion (FitsTest c) ts → k ≤ N
    → ((ρ : Row) × MarksJust (length c.gates) s ρ × Holds ρ (formula c ts N) × (ρ (count_variable (length c.gates) N (length c.gates) (suc k)) ≡ false))
    ↔ ((count s (length c.gates) ≤ k) × ExplainsCase c s ts)

abbrev pub WithinVariables : Type 0
WithinVariables =
    (c : Circuit) (ts : List Test) (N : ℕ) → Sound c → AllByRecursion (FitsTest c) ts
    → AllByRecursion (AllByRecursion (λ (x : Literal). (1 ≤ variable_of x) × (variable_of x ≤ variables c ts N))) (formula c ts N)

abbrev pub NineAtMost : Type 0
NineAtMost = (c : Circuit) (ts : List Test) (N : ℕ) → Sound c → AllByRecursion (λ (x : Clause). length x ≤ 9) (formula c ts N)
