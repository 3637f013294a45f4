use Rattle.std.proofs.Common.{◌^◌, ◌<◌, not, ap, rules}
use Rattle.signal_value.specs.Possible.{only}
use Rattle.signal_value.proofs.Images.{image_follows_as}
use Rattle.signal_value.proofs.Lanes.{lane_not}
use Rattle.signal_value.proofs.word.WordLogic.not.Goals as goal

pub returns : goal.returns
returns c = let fits : c.args.self.0 < 2 ^ 32 = search rules in λ i h. image_follows_as not _ _ (ap only (lane_not c.args.self.0 i fits h))
