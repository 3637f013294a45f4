-- What comes next in a full list, of which some sets were given.
--   Begins                  the sets given are a beginning of a list
--   Candidate               a set of at most N that explains and contains no set given; what explains is any property of sets
--   CandidateFor            the same for a circuit and the tests of a case
--   AgreeBefore             two sets have the same gates below a gate
--   EndsWithoutCandidates   the sets given are the whole list exactly if there is no candidate
--   FirstCandidateIsNext    the first candidate in order is the next set of the list
--   NextByGates             so is a smallest candidate, if for each gate that it leaves out no candidate of its size agrees with it before that gate and has the gate
use Rattle.std.specs.Prelude.{◌≡◌, ℕ, ◌<◌, ◌≤◌, true, false, ◌↔◌, List, [], ◌∷◌, ◌++◌, length, ◌≢◌}
use Rattle.circuit.specs.Circuits.{Circuit}
use Rattle.circuit.specs.Tests.{Test}
use Rattle.diagnosis.specs.Sets.{member, IsSet, Within}
use Rattle.diagnosis.specs.Explains.{ExplainsSet}
use Rattle.diagnosis.specs.Order.{Before, In}
use Rattle.diagnosis.specs.Minimal.{FullListFor}

abbrev pub Begins : List (List ℕ) → List (List ℕ) → Type 0
Begins given L = (rest : List (List ℕ)) × (given ++ rest ≡ L)

pub record Candidate (n : ℕ) (Explaining : List ℕ → Type 0) (N : ℕ) (given : List (List ℕ)) (S : List ℕ) : Type 0 where
  pub set : IsSet n S
  pub few : length S ≤ N
  pub explains : Explaining S
  pub fresh : (D : List ℕ) → In D given → Within D S → ⊥

abbrev pub CandidateFor : Circuit → List Test → ℕ → List (List ℕ) → List ℕ → Type 0
CandidateFor c ts N given S = Candidate (length c.gates) (ExplainsSet c ts) N given S

abbrev pub AgreeBefore : ℕ → List ℕ → List ℕ → Type 0
AgreeBefore g T S = (i : ℕ) → 1 ≤ i → i < g → member T i ≡ member S i

abbrev pub EndsWithoutCandidates : Type 0
EndsWithoutCandidates =
    (c : Circuit) (ts : List Test) (N : ℕ) (L given : List (List ℕ)) → FullListFor c ts N L → Begins given L
    → (given ≡ L) ↔ ((S : List ℕ) → CandidateFor c ts N given S → ⊥)

abbrev pub FirstCandidateIsNext : Type 0
FirstCandidateIsNext =
    (c : Circuit) (ts : List Test) (N : ℕ) (L given : List (List ℕ)) → FullListFor c ts N L → Begins given L
    → (S : List ℕ) → CandidateFor c ts N given S → ((T : List ℕ) → CandidateFor c ts N given T → Before T S → ⊥)
    → Begins (given ++ S ∷ []) L

abbrev pub NextByGates : Type 0
NextByGates =
    (c : Circuit) (ts : List Test) (N : ℕ) (L given : List (List ℕ)) → FullListFor c ts N L → Begins given L
    → (S : List ℕ) → CandidateFor c ts N given S
    → ((T : List ℕ) → CandidateFor c ts N given T → length T < length S → ⊥)
    → ((g : ℕ) (T : List ℕ) → 1 ≤ g → g ≤ length c.gates → member S g ≡ false → CandidateFor c ts N given T → length T ≡ length S → AgreeBefore g T S → member T g ≢ true)
    → Begins (given ++ S ∷ []) L
