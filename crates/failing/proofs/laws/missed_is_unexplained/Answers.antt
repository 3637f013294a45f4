use Rattle.failing.proofs.Unexplained.{missed_unexplained}
use Rattle.failing.proofs.laws.missed_is_unexplained.Goals as goal

pub returns : goal.returns
returns c = missed_unexplained
