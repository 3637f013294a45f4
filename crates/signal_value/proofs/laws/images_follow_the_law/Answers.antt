use Rattle.signal_value.proofs.Images.{images_follow}
use Rattle.signal_value.proofs.laws.images_follow_the_law.Goals as goal

pub returns : goal.returns
returns c = images_follow
