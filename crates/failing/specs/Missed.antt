-- Which tests a circuit misses if no gate misbehaves.
--   missed              whether some measured output of a test has another value, while no gate is forced
--   word_of             the number whose bit i, counted from 0, is bit i of a list
--   MissedUnexplained   a test is missed exactly if the empty set does not explain it
use Rattle.std.specs.Prelude.{◌≡◌, ℕ, ◌+◌, ◌*◌, Bool, false, cond, not, ◌↔◌, List, [], ◌∷◌}
use Rattle.circuit.specs.Circuits.{Circuit}
use Rattle.circuit.specs.Tests.{Test}
use Rattle.diagnosis.specs.Sets.{member}
use Rattle.diagnosis.specs.Explains.{brings_out, Explains}

abbrev pub missed : Circuit → Test → Bool
missed c t = not (brings_out c (member []) (λ _. false) t)

abbrev pub word_of : List Bool → ℕ
word_of [] = 0
word_of (b ∷ bs) = cond b 1 0 + 2 * word_of bs

abbrev pub MissedUnexplained : Type 0
MissedUnexplained = (c : Circuit) (t : Test) → (missed c t ≡ false) ↔ Explains c (member []) t
