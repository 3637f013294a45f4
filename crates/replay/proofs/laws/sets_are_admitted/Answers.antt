use Rattle.replay.proofs.SetsAsked.{sets_admitted}
use Rattle.replay.proofs.laws.sets_are_admitted.Goals as goal

pub returns : goal.returns
returns c = sets_admitted
