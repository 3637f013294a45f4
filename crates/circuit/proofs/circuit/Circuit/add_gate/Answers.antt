use Rattle.std.proofs.Common.{◌≡◌, ◌+◌, ◌≤◌, true, List, ◌∷◌, [], ◌++◌, map, vec_items, vec_len, sym, ap, ◌∙◌, subst, zero-add, length, arith}
use Rattle.std.proofs.lemmas.List.{map_push}
use Rattle.circuit.specs.Circuits.{Gate, gate_of, fits, wired}
use Rattle.circuit.proofs.Wiring.{wired_push, all_there_more}
use Rattle.circuit.proofs.circuit.Circuit.add_gate.Goals as goal

pub invariant_of-self : goal.invariant_of-self
invariant_of-self c =
    let s = c.args.self.now in
    let v = c.push_reserved.new.self in
    let gs = map gate_of (vec_items s.gates) in
    let g = gate_of c.args.gate in
    let pushed : map gate_of (vec_items v) ≡ gs ++ g ∷ [] = ap (map gate_of) c.push_reserved.ensures.items ∙ map_push gate_of (vec_items s.gates) c.args.gate in
    let fit : fits s.inputs (0 + length gs) g ≡ true = subst (λ k. fits s.inputs k g ≡ true) (sym (zero-add (length gs))) (sym c.if-not-fits.ensures) in
    let one : vec_len v ≡ vec_len s.gates + 1 = c.push_reserved.ensures.len in
    let more : vec_len s.gates ≤ vec_len v = omega arith in
    let same : s.inputs ≤ s.inputs = omega arith in
    record {
      few_inputs = s.few_inputs;
      few_gates = omega (arith, c.len.ensures, c.if-len-ge-MOST_GATES.false);
      few_outputs = s.few_outputs;
      in_order = subst (λ (l : List Gate). wired s.inputs 0 l ≡ true) (sym pushed) (wired_push s.inputs 0 gs g s.in_order fit);
      shown = all_there_more s.inputs s.inputs (vec_len s.gates) (vec_len v) (vec_items s.outputs) same more s.shown;
      gate_room = omega (arith, c.push_reserved.ensures.capacity);
      output_room = s.output_room;
    }
