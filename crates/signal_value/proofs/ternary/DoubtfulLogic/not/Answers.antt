use Rattle.std.proofs.Common.{not, sym, ap}
use Rattle.signal_value.specs.Possible.{image}
use Rattle.signal_value.specs.Kept.{known}
use Rattle.signal_value.proofs.Images.{image_follows_as}
use Rattle.signal_value.proofs.ternary.DoubtfulLogic.not.Goals as goal

pub returns-in-Unknown : goal.returns-in-Unknown
returns-in-Unknown c = λ i h. image_follows_as not _ _ (ap (λ v. image not (known v)) (sym c.in-Unknown.is))
