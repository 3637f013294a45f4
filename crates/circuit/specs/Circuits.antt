-- Circuits without names, as the definitions speak of them.
--   Gate, Circuit   a gate by its kind and operands; a circuit by its number of inputs, its gates in order, and the signals at its outputs
--   there           whether a signal is an input, or one of the first gates
--   fits, wired     whether a gate, or a row of gates, may come after so many others
--   gate_of         the gate that the code's table holds
--   with_gate, ..   a circuit with one input, gate or output more
--   Sound           a circuit within the limits, whose operands come before their gates and whose outputs are signals of it
use Rattle.std.specs.Prelude.{◌≡◌, ℕ, suc, ◌≤◌, Bool, true, ◌&&◌, List, [], ◌∷◌, ◌++◌, length, nat_le}
use Rattle.circuit.specs.declared.kind.Kind.{Kind}
use Rattle.circuit.specs.declared.gate.Signal.{Signal}
use Rattle.circuit.specs.declared.gate.Signal.TheVariants as signal
use Rattle.circuit.specs.declared.gate.Gate.{Gate as HeldGate}
use Rattle.circuit.specs.Kinds.{takes}
use Rattle.std.specs.List.{list_all}
use Rattle.inline_list.specs.Listed.{listed}

pub record Gate : Type 0 where
  pub kind : Kind
  pub operands : List Signal

pub record Circuit : Type 0 where
  pub inputs : ℕ
  pub gates : List Gate
  pub outputs : List Signal

abbrev pub empty : Circuit
empty = record { inputs = 0; gates = []; outputs = [] }

-- one of the inputs 1 to I, or of the gates 1 to m
abbrev pub there : ℕ → ℕ → Signal → Bool
there I m (signal.Input i) = nat_le 1 i && nat_le i I
there I m (signal.Gate g) = nat_le 1 g && nat_le g m

-- a gate that may come after m others: its kind takes so many operands, and each is there before it
abbrev pub fits : ℕ → ℕ → Gate → Bool
fits I m g = takes g.kind (length g.operands) && list_all (there I m) g.operands

-- gates, each of which may come after m others and those before it
abbrev pub wired : ℕ → ℕ → List Gate → Bool
wired I m [] = true
wired I m (g ∷ gs) = fits I m g && wired I (suc m) gs

abbrev pub with_input : Circuit → Circuit
with_input c = record { inputs = suc c.inputs; gates = c.gates; outputs = c.outputs }

abbrev pub with_gate : Circuit → Gate → Circuit
with_gate c g = record { inputs = c.inputs; gates = c.gates ++ g ∷ []; outputs = c.outputs }

abbrev pub with_output : Circuit → Signal → Circuit
with_output c s = record { inputs = c.inputs; gates = c.gates; outputs = c.outputs ++ s ∷ [] }

pub record Sound (c : Circuit) : Type 0 where
  pub few_inputs : c.inputs ≤ 64
  pub few_gates : length c.gates ≤ 256
  pub few_outputs : length c.outputs ≤ 64
  pub in_order : wired c.inputs 0 c.gates ≡ true
  pub shown : list_all (there c.inputs (length c.gates)) c.outputs ≡ true

abbrev pub gate_of : HeldGate → Gate
gate_of g = record { kind = g.kind; operands = listed g.operands }
