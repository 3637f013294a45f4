-- What settled outputs tell.
--   SettledHolds   an output that is settled at a bit has that bit, whatever values are forced on the set's gates
use Rattle.std.specs.Prelude.{◌≡◌, ℕ, ◌<◌, Bool, List, length, slice_index_or}
use Rattle.circuit.specs.declared.gate.Signal.TheVariants as signal
use Rattle.circuit.specs.Circuits.{Circuit}
use Rattle.diagnosis.specs.Sets.{member}
use Rattle.diagnosis.specs.Explains.{Values, value, values}
use Rattle.replay.specs.Written.{bit_byte, settled}

abbrev pub SettledHolds : Type 0
SettledHolds =
    (c : Circuit) (inputs : List Bool) (S : List ℕ) (j : ℕ) (b : Bool) → j < length c.outputs → slice_index_or (settled c inputs S) j 2 ≡ bit_byte b
    → (w : Values) → value inputs (values c (member S) w inputs) (slice_index_or c.outputs j (signal.Input 0)) ≡ b
