use Rattle.std.proofs.Common.{true, false, not, sym, refl, ◌∙◌}
use Rattle.circuit.specs.declared.gate.Signal.{Signal}
use Rattle.inline_list.specs.Listed.{listed}
use Rattle.signal_value.specs.Possible.{Possible}
use Rattle.signal_value.proofs.Images.{follows_image}
use Rattle.evaluation.specs.Evaluated.{standing}
use Rattle.evaluate.specs.Forced.{in_lane}
use Rattle.evaluate.proofs.KindImages.{join_more, join_all, joined_image}
use Rattle.evaluate.proofs.walk.compute.Goals as goal

pub loop-signal-preserved : goal.loop-signal-preserved
loop-signal-preserved g c = λ i h.
    let S : Signal → Possible = standing (in_lane g.L.Logic.stands i c.args.inputs.now) (in_lane g.L.Logic.stands i c.args.values.now) in
    join_more c.of-connective.result S (g.L.Logic.stands c.loop-signal.combined i) (g.L.Logic.stands c.value_of.result i) (g.L.Logic.stands c.join-combined.result i) c.as_slice-operands.result.now c.loop-signal.signal-index _ c.loop-signal-test.true
    (c.value_of.ensures i h) (c.join-combined.ensures i h)
    ∙ c.loop-signal.invariant i h

pub returns-then-is_inverting : goal.returns-then-is_inverting
returns-then-is_inverting g c = λ i h.
    let S : Signal → Possible = standing (in_lane g.L.Logic.stands i c.args.inputs.now) (in_lane g.L.Logic.stands i c.args.values.now) in
    let A : Possible = g.L.Logic.stands c.loop-signal.combined i in
    joined_image c.args.gate.now.kind c.of-connective.result S c.as_slice-operands.result.now (listed c.args.gate.now.operands) A (g.L.Logic.stands c.not.result i) true
    c.of-connective.ensures c.as_slice-operands.ensures
    (sym (join_all c.of-connective.result S A c.as_slice-operands.result.now c.loop-signal.signal-index c.loop-signal-test.false) ∙ c.loop-signal.invariant i h)
    c.if-is_inverting.ensures
    (follows_image not A (g.L.Logic.stands c.not.result i) (c.not.ensures i h))

pub returns-else-is_inverting : goal.returns-else-is_inverting
returns-else-is_inverting g c = λ i h.
    let S : Signal → Possible = standing (in_lane g.L.Logic.stands i c.args.inputs.now) (in_lane g.L.Logic.stands i c.args.values.now) in
    let A : Possible = g.L.Logic.stands c.loop-signal.combined i in
    joined_image c.args.gate.now.kind c.of-connective.result S c.as_slice-operands.result.now (listed c.args.gate.now.operands) A A false
    c.of-connective.ensures c.as_slice-operands.ensures
    (sym (join_all c.of-connective.result S A c.as_slice-operands.result.now c.loop-signal.signal-index c.loop-signal-test.false) ∙ c.loop-signal.invariant i h)
    c.if-is_inverting.ensures
    refl
