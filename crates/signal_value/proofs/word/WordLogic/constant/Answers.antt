use Rattle.std.proofs.Common.{sym, ap, ◌∙◌}
use Rattle.signal_value.specs.Possible.{only}
use Rattle.signal_value.proofs.Lanes.{lane_ones}
use Rattle.signal_value.proofs.word.WordLogic.constant.Goals as goal

pub returns-then-bit : goal.returns-then-bit
returns-then-bit c = λ i h. ap only (lane_ones i h ∙ sym c.if-bit.true)
