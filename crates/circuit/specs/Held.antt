-- What the code's circuit stands for.
--   circuit_of   the circuit that its tables hold
--   admits       whether one more gate may come
use Rattle.std.specs.Prelude.{Bool, ◌&&◌, map, length, vec_items, nat_lt}
use Rattle.circuit.specs.declared.gate.Signal.{Signal}
use Rattle.circuit.specs.declared.circuit.Circuit.{Circuit as HeldCircuit}
use Rattle.circuit.specs.Circuits.{Gate, Circuit, gate_of, there, fits}

abbrev pub circuit_of : HeldCircuit → Circuit
circuit_of c = record { inputs = c.inputs; gates = map gate_of (vec_items c.gates); outputs = vec_items c.outputs }

-- there is room for another gate, and it fits after those that are there
abbrev pub admits_gate : Circuit → Gate → Bool
admits_gate c g = nat_lt (length c.gates) 256 && fits c.inputs (length c.gates) g

-- there is room for another output, and it names a signal that is there
abbrev pub admits_output : Circuit → Signal → Bool
admits_output c s = nat_lt (length c.outputs) 64 && there c.inputs (length c.gates) s
