-- What the rows of the clauses added say of candidates: sets of at most N gates that explain and contain no set given.
--   last_count             the variable that tells whether more than k gates are marked
--   Given                  what the laws are about: a sound circuit, tests of it, and sets of its gates
--   FirstCandidate         a candidate, and none stands before it
--   RowsAreCandidates      a row with just these marks and no more than k of them exists exactly if the marked set is a candidate of at most k gates
--   LowestRowIsFirst       a row with the fewest marks, lowest from the first gate on, marks the first candidate
--   NoRowNoCandidate       without a row there is no candidate
--   AddedWithinVariables   each literal's variable is one of the formula's
--   RowBringsOut           the values that a row forces, read as a byte, bring out the test
use Rattle.std.specs.Prelude.{◌≡◌, ℕ, suc, ◌<◌, ◌≤◌, true, false, ◌↔◌, List, length, Some, ◌≢◌}
use Rattle.std.specs.List.{slice_get, AllByRecursion}
use Rattle.circuit.specs.Circuits.{Circuit, Sound}
use Rattle.circuit.specs.Tests.{Test, FitsTest}
use Rattle.diagnosis.specs.Sets.{member, IsSet}
use Rattle.diagnosis.specs.Explains.{brings_out}
use Rattle.diagnosis.specs.Order.{Before}
use Rattle.diagnosis.specs.Next.{CandidateFor}
use Rattle.diagnosis.specs.Marked.{marked}
use Rattle.diagnosis.specs.Readings.{reading, forced_by}
use Rattle.cnf_theory.specs.Literals.{Row, Literal, Holds, variable_of}
use Rattle.cnf_theory.specs.Variables.{count_variable, base, forced_variable, variables}
use Rattle.cnf_theory.specs.Formula.{formula}
use Rattle.cnf_theory.specs.FormulaLaws.{MarksJust}
use Rattle.candidates.specs.Added.{added}

abbrev pub last_count : Circuit → ℕ → ℕ → ℕ
last_count c N k = count_variable (length c.gates) N (length c.gates) (suc k)

pub record Given (c : Circuit) (ts : List Test) (given : List (List ℕ)) : Type 0 where
  pub circuit : Sound c
  pub tests : AllByRecursion (FitsTest c) ts
  pub sets : AllByRecursion (IsSet (length c.gates)) given

pub record FirstCandidate (c : Circuit) (ts : List Test) (N : ℕ) (given : List (List ℕ)) (S : List ℕ) : Type 0 where
  pub candidate : CandidateFor c ts N given S
  pub first : (T : List ℕ) → CandidateFor c ts N given T → Before T S → ⊥

abbrev pub RowsAreCandidates : Type 0
RowsAreCandidates =
    (c : Circuit) (ts : List Test) (N : ℕ) (given : List (List ℕ)) → Given c ts given → (k : ℕ) → k ≤ N → (S : List ℕ) → IsSet (length c.gates) S
    → ((ρ : Row) × MarksJust (length c.gates) (member S) ρ × Holds ρ (added c ts N given) × (ρ (last_count c N k) ≡ false)) ↔ (CandidateFor c ts N given S × (length S ≤ k))

abbrev pub LowestRowIsFirst : Type 0
LowestRowIsFirst =
    (c : Circuit) (ts : List Test) (N : ℕ) (given : List (List ℕ)) → Given c ts given → (k : ℕ) → k ≤ N → (ρ : Row) → Holds ρ (added c ts N given) → ρ (last_count c N k) ≡ false
    → ((j : ℕ) → suc j ≡ k → (σ : Row) → Holds σ (added c ts N given) → σ (last_count c N j) ≢ false)
    → ((g : ℕ) → 1 ≤ g → g ≤ length c.gates → ρ g ≡ false → (σ : Row) → Holds σ (added c ts N given) → σ (last_count c N k) ≡ false → ((i : ℕ) → 1 ≤ i → i < g → σ i ≡ ρ i) → σ g ≢ true)
    → FirstCandidate c ts N given (marked ρ (length c.gates)) × (length (marked ρ (length c.gates)) ≡ k)

abbrev pub NoRowNoCandidate : Type 0
NoRowNoCandidate =
    (c : Circuit) (ts : List Test) (N : ℕ) (given : List (List ℕ)) → Given c ts given → ((σ : Row) → Holds σ (added c ts N given) → σ (last_count c N N) ≢ false)
    → (S : List ℕ) → CandidateFor c ts N given S → ⊥

abbrev pub AddedWithinVariables : Type 0
AddedWithinVariables =
    (c : Circuit) (ts : List Test) (N : ℕ) (given : List (List ℕ)) → Given c ts given
    → AllByRecursion (AllByRecursion (λ (x : Literal). (1 ≤ variable_of x) × (variable_of x ≤ variables c ts N))) (added c ts N given)

abbrev pub RowBringsOut : Type 0
RowBringsOut =
    (c : Circuit) (ts : List Test) (N : ℕ) (ρ : Row) → Sound c → AllByRecursion (FitsTest c) ts → Holds ρ (formula c ts N) → (S : List ℕ) → marked ρ (length c.gates) ≡ S
    → (t : ℕ) (test : Test) → slice_get ts t ≡ Some test → brings_out c (member S) (forced_by S (reading S (λ g. ρ (forced_variable (base c N t) c.inputs g)))) test ≡ true
