-- How many gates and inputs a circuit has: at most 256 and 64.
use Rattle.std.proofs.Common.{◌≡◌, ◌≤◌, List, map, length, vec_items, ap, arith}
use Rattle.std.proofs.lemmas.List.{length-map}
use Rattle.circuit.specs.declared.gate.Gate.{Gate as HeldGate}
use Rattle.circuit.specs.declared.circuit.Circuit.{Circuit as HeldCircuit}
use Rattle.circuit.specs.Circuits.{gate_of}
use Rattle.circuit.specs.Held.{circuit_of}

pub gates_listed : (c : HeldCircuit) (gs : List HeldGate) → map gate_of gs ≡ (circuit_of c).gates → length gs ≡ length (circuit_of c).gates
gates_listed c gs e = omega (arith, length-map gs gate_of, ap length e)

pub few_gates : (c : HeldCircuit) → length (circuit_of c).gates ≤ 256
few_gates c = omega (arith, length-map (vec_items c.gates) gate_of, c.gates.ok.0, c.few_gates)
