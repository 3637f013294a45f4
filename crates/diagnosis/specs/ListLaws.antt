-- The laws of the order, of minimal sets and of the full list.
--   OrderStrictTotal            the order is asymmetric, transitive and total: of two different lists exactly one stands before the other
--   MinimalWhenNoneDrops        a set is minimal exactly if it explains and no longer does when any one gate is dropped
--   ExplainingContainsMinimal   each set that explains contains a minimal set
--   FullListExact               the list that computes is the full list
--   FullListUnique              no two lists are the full list of one case
--   FullListOnce                no set stands twice in a full list
use Rattle.std.specs.Prelude.{◌≡◌, ℕ, true, ◌⊎◌, ◌↔◌, List, ◌∷◌, ◌++◌, length}
use Rattle.circuit.specs.Circuits.{Circuit}
use Rattle.circuit.specs.Tests.{Test}
use Rattle.diagnosis.specs.Sets.{member, IsSet, Within, without}
use Rattle.diagnosis.specs.Explains.{ExplainsSet}
use Rattle.diagnosis.specs.Order.{Before, In}
use Rattle.diagnosis.specs.Minimal.{MinimalSet, FullListFor}
use Rattle.diagnosis.specs.FullList.{full_list}

pub record OrderStrictTotal : Type 0 where
  pub asymmetric : (S T : List ℕ) → Before S T → Before T S → ⊥
  pub transitive : (R S T : List ℕ) → Before R S → Before S T → Before R T
  pub total : (S T : List ℕ) → (S ≡ T) ⊎ (Before S T ⊎ Before T S)

abbrev pub MinimalWhenNoneDrops : Type 0
MinimalWhenNoneDrops =
    (c : Circuit) (ts : List Test) (S : List ℕ) → IsSet (length c.gates) S
    → MinimalSet c ts S ↔ (ExplainsSet c ts S × ((g : ℕ) → member S g ≡ true → ExplainsSet c ts (without g S) → ⊥))

abbrev pub ExplainingContainsMinimal : Type 0
ExplainingContainsMinimal =
    (c : Circuit) (ts : List Test) (S : List ℕ) → IsSet (length c.gates) S → ExplainsSet c ts S
    → (T : List ℕ) × IsSet (length c.gates) T × Within T S × MinimalSet c ts T

abbrev pub FullListExact : Type 0
FullListExact = (c : Circuit) (ts : List Test) (N : ℕ) → FullListFor c ts N (full_list c ts N)

abbrev pub FullListUnique : Type 0
FullListUnique = (c : Circuit) (ts : List Test) (N : ℕ) (K L : List (List ℕ)) → FullListFor c ts N K → FullListFor c ts N L → K ≡ L

abbrev pub FullListOnce : Type 0
FullListOnce = (c : Circuit) (ts : List Test) (N : ℕ) (L : List (List ℕ)) → FullListFor c ts N L → (S : List ℕ) (before after : List (List ℕ)) → before ++ S ∷ after ≡ L → In S before ⊎ In S after → ⊥
