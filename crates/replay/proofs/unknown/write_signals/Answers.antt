use Rattle.std.proofs.Common.{ℕ, ◌<◌, map, length, set, ap, ◌∙◌, arith, lit<}
use Rattle.circuit.specs.declared.gate.Signal.{Signal}
use Rattle.signal_value.specs.Kept.{known, byte_of}
use Rattle.evaluation.specs.Evaluated.{standing}
use Rattle.replay.proofs.Writing.{written_more, written_all}
use Rattle.replay.proofs.unknown.write_signals.Goals as goal

pub loop-i-preserved : goal.loop-i-preserved
loop-i-preserved c =
    let entry = c.args.buffer.now in
    let f : Signal → ℕ = λ o. byte_of (standing (map known c.args.inputs.now) (map known c.args.values.now) o) in
    let room : c.loop-i.i < length entry = omega (arith, c.requires) in
    ap (λ b. set b c.loop-i.i c.from.result) c.loop-i.invariant
    ∙ written_more f c.args.signals.now entry c.loop-i.i _ c.from.result c.loop-i-test.true room (c.from.ensures ∙ ap byte_of (c.value_of.ensures 0 (lit< tt)))

pub returns : goal.returns
returns c =
    let f : Signal → ℕ = λ o. byte_of (standing (map known c.args.inputs.now) (map known c.args.values.now) o) in
    c.loop-i.invariant ∙ written_all f c.args.signals.now c.args.buffer.now c.loop-i.i c.loop-i-test.false (omega arith)
