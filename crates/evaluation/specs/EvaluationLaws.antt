-- What an evaluation says of the circuit's bits.
--   GateLaw            a gate may be every bit that its function gives for its operands' bits, and no other
--   ForcedAmong        marked gates and their values are among what is forced: every marked gate and no other is forced, with its value among the bits
--   EvaluationCovers   whatever bits the inputs and the forced gates have, of those they stand for, the value that each gate then has is one that it stands for
--   EvaluationOfBits   if one bit only is known of each input and of each forced gate, each gate stands for its simulated value alone
use Rattle.std.specs.Prelude.{◌≡◌, ℕ, Bool, true, false, ◌↔◌, List, map, MatchOption}
use Rattle.circuit.specs.Circuits.{Circuit}
use Rattle.diagnosis.specs.Sets.{Marks}
use Rattle.diagnosis.specs.Explains.{Values, values}
use Rattle.signal_value.specs.Possible.{Possible, only, includes}
use Rattle.evaluation.specs.Gates.{image_of, Among}
use Rattle.evaluation.specs.Evaluated.{Forcing, evaluated, forcing}

abbrev pub GateLaw : Type 0
GateLaw = (f : List Bool → Bool) (Ps : List Possible) (x : Bool) → (includes (image_of f Ps) x ≡ true) ↔ ((bs : List Bool) × Among Ps bs × (f bs ≡ x))

abbrev pub ForcedAmong : Forcing → Marks → Values → Type 0
ForcedAmong F s w = (n : ℕ) → MatchOption (F n) (s n ≡ false) (λ P. (s n ≡ true) × (includes P (w n) ≡ true))

abbrev pub EvaluationCovers : Type 0
EvaluationCovers =
    (c : Circuit) (F : Forcing) (Ps : List Possible) (s : Marks) (w : Values) (inputs : List Bool)
    → Among Ps inputs → ForcedAmong F s w → Among (evaluated c F Ps) (values c s w inputs)

abbrev pub EvaluationOfBits : Type 0
EvaluationOfBits = (c : Circuit) (s : Marks) (w : Values) (inputs : List Bool) → evaluated c (forcing s w) (map only inputs) ≡ map only (values c s w inputs)
