use Rattle.std.proofs.Common.{sym, ◌∙◌, ⊎_elim, arith}
use Rattle.gate_set.proofs.AscendingNumbers.{above_low, above_high, above_more, above_all}
use Rattle.gate_set.proofs.ascending.ascends.Goals as goal

pub returns-then-number-last : goal.returns-then-number-last
returns-then-number-last c =
    ⊎_elim
    (λ low. sym (above_low c.args.gates c.loop-gate.last c.args.set.now c.loop-gate.gate-index 0 c.loop-gate-test.true low))
    (λ high. sym (above_high c.args.gates c.loop-gate.last c.args.set.now c.loop-gate.gate-index 0 c.loop-gate-test.true high.1))
    c.then-number-last.either
    ∙ c.loop-gate.invariant

pub loop-gate-preserved : goal.loop-gate-preserved
loop-gate-preserved c = sym (above_more c.args.gates c.loop-gate.last c.args.set.now c.loop-gate.gate-index 0 c.loop-gate-test.true (omega arith) (omega arith)) ∙ c.loop-gate.invariant

pub returns : goal.returns
returns c = sym (above_all c.args.gates c.loop-gate.last c.args.set.now c.loop-gate.gate-index c.loop-gate-test.false) ∙ c.loop-gate.invariant
