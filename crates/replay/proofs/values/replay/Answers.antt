use Rattle.std.proofs.Common.{◌≡◌, ℕ, Bool, true, cond, List, map, length, ap, ◌∙◌, lit<}
use Rattle.circuit.specs.Circuits.{Circuit}
use Rattle.circuit.specs.Held.{circuit_of}
use Rattle.inline_list.specs.Listed.{listed}
use Rattle.diagnosis.specs.Sets.{member}
use Rattle.diagnosis.specs.Explains.{values}
use Rattle.diagnosis.specs.Readings.{forced_by}
use Rattle.replay.specs.Asked.{admits, answer}
use Rattle.replay.specs.Written.{bit_byte, written, replayed}
use Rattle.replay.proofs.SetsAsked.{admitted}
use Rattle.replay.proofs.Replayed.{replayed_bits}
use Rattle.replay.proofs.values.replay.Goals as goal

pub returns : goal.returns
returns c =
    let C : Circuit = circuit_of c.args.circuit.now in
    let buffer : List ℕ = c.args.buffer.now in
    let inputs : List Bool = c.args.inputs.now in
    let S : List ℕ = c.args.set.now in
    let yes : true ≡ admits C inputs S (length C.gates) (length buffer) = admitted _ c.in_ok-admit.ensures ∙ ap (λ n. admits C inputs S n (length buffer)) c.gate_count.ensures.value in
    let bits : c.as_slice-2.result.now ≡ values C (member S) (forced_by S c.args.byte) inputs =
    c.as_slice-2.ensures ∙ replayed_bits C inputs S c.args.byte (listed c.evaluate-values.result) _ (c.as_slice.ensures ∙ c.forced_bits-forced.ensures) (c.evaluate-values.ensures.lanes 0 (lit< tt)) in
    record {
      refused = ap answer yes;
      after =
          c.write_bits.ensures
          ∙ ap (λ bs. written (map bit_byte bs) buffer) bits
          ∙ ap (λ t. cond t (written (replayed C inputs S c.args.byte) buffer) buffer) yes;
    }
