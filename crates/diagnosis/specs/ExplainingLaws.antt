-- The laws of explaining.
--   Consistent             a list of gates' values: each gate has its forced value if it is marked, else its function of its operands' values
--   GateValuesConsistent   if operands come before their gates, the simulated values are consistent, and no others are
--   MeasuredShown          a test fits the circuit, and by these gates' values each measured output has the value measured there
--   BringsOutMeasured      forced values bring out a test exactly if so by the values that the gates then have
--   SearchDecides          the search for forced values says yes exactly to what explains
--   SupersetsExplain       with more gates a set still explains
--   TestsNeedOwnValues     one choice of forced values need not serve all tests: a circuit and two tests show it
use Rattle.std.specs.Prelude.{◌≡◌, ℕ, suc, Bool, true, ◌↔◌, List, [], ◌∷◌, ◌++◌, length, Some, None, ◌≢◌, slice_index_or}
use Rattle.circuit.specs.declared.gate.Signal.TheVariants as signal
use Rattle.circuit.specs.Circuits.{Gate, Circuit, wired}
use Rattle.circuit.specs.Tests.{Test, FitsTest}
use Rattle.diagnosis.specs.Sets.{Marks, member, Within}
use Rattle.diagnosis.specs.Explains.{Values, numbered, value, gate_value, values, brings_out, Explains, ExplainsSet}
use Rattle.diagnosis.specs.FullList.{explains}
use Rattle.diagnosis.specs.Witness.{P, y_low_z_high, both_low}

pub record Consistent (c : Circuit) (s : Marks) (w : Values) (inputs vs : List Bool) : Type 0 where
  pub one_each : length vs ≡ length c.gates
  pub each : (before after : List Gate) (g : Gate) → before ++ g ∷ after ≡ c.gates → numbered vs (suc (length before)) ≡ gate_value s w inputs (suc (length before)) vs g

abbrev pub GateValuesConsistent : Type 0
GateValuesConsistent = (c : Circuit) → wired c.inputs 0 c.gates ≡ true → (s : Marks) (w : Values) (inputs vs : List Bool) → (vs ≡ values c s w inputs) ↔ Consistent c s w inputs vs

pub record MeasuredShown (c : Circuit) (t : Test) (vs : List Bool) : Type 0 where
  pub fits : FitsTest c t
  pub each : (i : ℕ) (m : Bool) → slice_index_or t.outputs i None ≡ Some m → value t.inputs vs (slice_index_or c.outputs i (signal.Input 0)) ≡ m

abbrev pub BringsOutMeasured : Type 0
BringsOutMeasured = (c : Circuit) (s : Marks) (w : Values) (t : Test) → (brings_out c s w t ≡ true) ↔ MeasuredShown c t (values c s w t.inputs)

abbrev pub SearchDecides : Type 0
SearchDecides = (c : Circuit) (S : List ℕ) (t : Test) → (explains c S t ≡ true) ↔ Explains c (member S) t

abbrev pub SupersetsExplain : Type 0
SupersetsExplain = (c : Circuit) (ts : List Test) (S T : List ℕ) → Within S T → ExplainsSet c ts S → ExplainsSet c ts T

abbrev pub TestsNeedOwnValues : Type 0
TestsNeedOwnValues =
    ExplainsSet P (y_low_z_high ∷ both_low ∷ []) (1 ∷ 2 ∷ [])
    × ((w : Values) → brings_out P (member (1 ∷ 2 ∷ [])) w y_low_z_high ≡ true → brings_out P (member (1 ∷ 2 ∷ [])) w both_low ≢ true)
