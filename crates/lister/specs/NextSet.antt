-- The answer of a next.
--   FirstOf   by the rows of a solver: the lowest set of the fewest marks, which the row shown marks; or that no row has at most N marks, and none is shown
--   Shows     a row is shown, and it marks just a set
--   NextIs    the first candidate, and a row that marks just it is shown; or that there is no candidate, and no row is shown
use Rattle.std.specs.Prelude.{◌≡◌, ℕ, suc, List, length, Some, None, Option}
use Rattle.circuit.specs.Circuits.{Circuit}
use Rattle.circuit.specs.Tests.{Test}
use Rattle.diagnosis.specs.Marked.{marked}
use Rattle.diagnosis.specs.Next.{CandidateFor}
use Rattle.solver.specs.Rows.{Row}
use Rattle.solver.specs.Meaning.{Meaning}
use Rattle.cnf_theory.specs.Variables.{count_variable}
use Rattle.answers.specs.Loaded.{NeverOff, Fewest, Found}
use Rattle.candidates.specs.CandidateLaws.{FirstCandidate}

abbrev pub FirstOf : Meaning → ℕ → ℕ → Option (List ℕ) → Meaning → Type 0
FirstOf m G N None n = NeverOff m (count_variable G N G (suc N)) × (n.shown ≡ None)
FirstOf m G N (Some S) n = (k : ℕ) × Fewest m G N k × Found m (count_variable G N G (suc k)) G S n

abbrev pub Shows : ℕ → List ℕ → Option Row → Type 0
Shows n S None = ⊥
Shows n S (Some row) = marked row n ≡ S

abbrev pub NextIs : Circuit → List Test → ℕ → List (List ℕ) → Option (List ℕ) → Option Row → Type 0
NextIs c ts N given None shown = ((S : List ℕ) → CandidateFor c ts N given S → ⊥) × (shown ≡ None)
NextIs c ts N given (Some S) shown = FirstCandidate c ts N given S × Shows (length c.gates) S shown
