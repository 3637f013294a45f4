use Rattle.std.proofs.Common.{◌≡◌, ℕ, Bool, true, cond, List, map, length, ap, ◌∙◌, lit<}
use Rattle.circuit.specs.Circuits.{Circuit}
use Rattle.circuit.specs.Held.{circuit_of}
use Rattle.signal_value.specs.Kept.{known}
use Rattle.replay.specs.Asked.{admits, answer}
use Rattle.replay.specs.Written.{written, settled}
use Rattle.replay.proofs.SetsAsked.{admitted}
use Rattle.replay.proofs.KnownOutputs.{settled_bytes}
use Rattle.replay.proofs.unknown.settled.Goals as goal

pub returns : goal.returns
returns c =
    let C : Circuit = circuit_of c.args.circuit.now in
    let buffer : List ℕ = c.args.buffer.now in
    let inputs : List Bool = c.args.inputs.now in
    let S : List ℕ = c.args.set.now in
    let outs = c.outputs-outputs.result.now in
    let yes : true ≡ admits C inputs S (length C.outputs) (length buffer) = admitted _ c.in_ok-admit.ensures ∙ ap (λ l. admits C inputs S (length l) (length buffer)) c.outputs-outputs.ensures in
    record {
      refused = ap answer yes;
      after =
          c.write_signals.ensures
          ∙ ap (λ bytes. written bytes buffer)
          (settled_bytes C inputs S outs _ _ _ c.outputs-outputs.ensures (ap (map known) c.as_slice-applied.ensures ∙ c.known_inputs-applied.ensures) (c.as_slice.ensures ∙ c.forced_unknown-forced.ensures)
          (ap (map known) c.as_slice-2.ensures ∙ c.evaluate-values.ensures.lanes 0 (lit< tt)))
          ∙ ap (λ t. cond t (written (settled C inputs S) buffer) buffer) yes;
    }
