-- What a full list is. The first definitions are over any property of the sets of 1 to n, here called explaining.
--   Minimal       a set that explains, and no proper subset of it does
--   IsFullList    every minimal set of at most N, and no other, in order; so each stands once
--   MinimalSet    a minimal set of gates, for a circuit and the tests of a case
--   FullListFor   the full list for a circuit, the tests of a case, and N
use Rattle.std.specs.Prelude.{ℕ, ◌≤◌, ◌↔◌, List, length}
use Rattle.circuit.specs.Circuits.{Circuit}
use Rattle.circuit.specs.Tests.{Test}
use Rattle.diagnosis.specs.Sets.{IsSet, Proper}
use Rattle.diagnosis.specs.Explains.{ExplainsSet}
use Rattle.diagnosis.specs.Order.{In, InOrder}

abbrev pub Minimal : ℕ → (List ℕ → Type 0) → List ℕ → Type 0
Minimal n Explaining S = Explaining S × ((T : List ℕ) → IsSet n T → Proper T S → Explaining T → ⊥)

pub record IsFullList (n : ℕ) (Explaining : List ℕ → Type 0) (N : ℕ) (L : List (List ℕ)) : Type 0 where
  pub each : (S : List ℕ) → In S L ↔ (IsSet n S × (length S ≤ N) × Minimal n Explaining S)
  pub order : InOrder L

abbrev pub MinimalSet : Circuit → List Test → List ℕ → Type 0
MinimalSet c ts S = Minimal (length c.gates) (ExplainsSet c ts) S

abbrev pub FullListFor : Circuit → List Test → ℕ → List (List ℕ) → Type 0
FullListFor c ts N L = IsFullList (length c.gates) (ExplainsSet c ts) N L
