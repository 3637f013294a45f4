use Rattle.std.proofs.Common.{◌<◌, length, set, ap, ◌∙◌, arith}
use Rattle.replay.specs.Written.{bit_byte}
use Rattle.replay.proofs.Writing.{byte_of_bit, written_more, written_all}
use Rattle.replay.proofs.values.write_bits.Goals as goal

pub loop-i-preserved : goal.loop-i-preserved
loop-i-preserved c =
    let entry = c.args.buffer.now in
    let room : c.loop-i.i < length entry = omega (arith, c.requires) in
    ap (λ b. set b c.loop-i.i c.from.result) c.loop-i.invariant ∙ written_more bit_byte c.args.bits.now entry c.loop-i.i _ c.from.result c.loop-i-test.true room (c.from.ensures ∙ byte_of_bit _)

pub returns : goal.returns
returns c = c.loop-i.invariant ∙ written_all bit_byte c.args.bits.now c.args.buffer.now c.loop-i.i c.loop-i-test.false (omega arith)
