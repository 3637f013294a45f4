-- What the calls write.
--   bit_byte   a bit as a byte
--   written    a buffer with these bytes at its front, and what was behind them still there
--   unknown    both bits on each gate of a set, and nothing on any other
--   replayed   the bytes of a test's gates, with a byte forced on a set
--   settled    the bytes of the outputs, with the gates of a set unknown
use Rattle.std.specs.Prelude.{ℕ, Bool, cond, List, ◌++◌, map, length, drop, Some, None}
use Rattle.circuit.specs.Circuits.{Circuit}
use Rattle.diagnosis.specs.Sets.{member}
use Rattle.diagnosis.specs.Explains.{values}
use Rattle.diagnosis.specs.Readings.{forced_by}
use Rattle.signal_value.specs.Possible.{only, both}
use Rattle.signal_value.specs.Kept.{byte_of}
use Rattle.evaluation.specs.Evaluated.{Forcing, standing, evaluated}

abbrev pub bit_byte : Bool → ℕ
bit_byte b = cond b 1 0

abbrev pub written : List ℕ → List ℕ → List ℕ
written bytes buffer = bytes ++ drop (length bytes) buffer

abbrev pub unknown : List ℕ → Forcing
unknown S n = cond (member S n) (Some both) None

abbrev pub replayed : Circuit → List Bool → List ℕ → ℕ → List ℕ
replayed c inputs S byte = map bit_byte (values c (member S) (forced_by S byte) inputs)

abbrev pub settled : Circuit → List Bool → List ℕ → List ℕ
settled c inputs S = map (λ o. byte_of (standing (map only inputs) (evaluated c (unknown S) (map only inputs)) o)) c.outputs
