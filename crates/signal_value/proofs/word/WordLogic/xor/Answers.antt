use Rattle.std.proofs.Common.{ap}
use Rattle.signal_value.specs.Law.{xor}
use Rattle.signal_value.specs.Possible.{only}
use Rattle.signal_value.proofs.Images.{image2_follows_as}
use Rattle.signal_value.proofs.Lanes.{lane_xor}
use Rattle.signal_value.proofs.word.WordLogic.xor.Goals as goal

pub returns : goal.returns
returns c = λ i h. image2_follows_as xor _ _ _ (ap only (lane_xor c.args.self.0 c.args.other.0 i))
