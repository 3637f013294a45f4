use Rattle.std.proofs.Common.{◌<◌, Bool, false, List, [], ◌∷◌, ◌++◌, length, take, sym, ap, ◌∙◌, arith}
use Rattle.std.proofs.lemmas.List.{take_more, length-take-le}
use Rattle.inline_list.specs.Listed.{listed}
use Rattle.inline_list.proofs.Few.{pushed}
use Rattle.test_format.specs.Packing.{unpack}
use Rattle.test_format.proofs.Packed.{length_unpack}
use Rattle.testlog.proofs.values.applied_inputs.Goals as goal

pub loop-i-preserved : goal.loop-i-preserved
loop-i-preserved c =
    let u = unpack c.args.group.now in
    let i = c.loop-i.i in
    let xs = listed c.loop-i.inputs in
    let here : i < length u = omega (arith, length_unpack c.args.group.now) in
    let room : length xs < 64 = omega (arith, ap length c.loop-i.invariant, length-take-le i u (omega arith)) in
    pushed 64 xs _ c.bit_at.result _ c.push.ensures.room c.push.ensures.after room
    ∙ ap (λ (l : List Bool). l ++ c.bit_at.result ∷ []) c.loop-i.invariant
    ∙ ap (λ b. take i u ++ b ∷ []) c.bit_at.ensures
    ∙ sym (take_more u i false here)
