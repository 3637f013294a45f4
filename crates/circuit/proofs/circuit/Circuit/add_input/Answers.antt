use Rattle.std.proofs.Common.{◌+◌, ◌≤◌, map, vec_items, vec_len, arith}
use Rattle.circuit.specs.Circuits.{gate_of}
use Rattle.circuit.proofs.Wiring.{wired_more, all_there_more}
use Rattle.circuit.proofs.circuit.Circuit.add_input.Goals as goal

pub invariant_of-self : goal.invariant_of-self
invariant_of-self c =
    let s = c.args.self.now in
    let I = s.inputs in
    let G = vec_len s.gates in
    let more : I ≤ I + 1 = omega arith in
    let same : G ≤ G = omega arith in
    record {
      few_inputs = omega arith;
      few_gates = s.few_gates;
      few_outputs = s.few_outputs;
      in_order = wired_more I (I + 1) 0 (map gate_of (vec_items s.gates)) more s.in_order;
      shown = all_there_more I (I + 1) G G (vec_items s.outputs) more same s.shown;
      gate_room = s.gate_room;
      output_room = s.output_room;
    }
