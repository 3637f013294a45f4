use Rattle.replay.proofs.KnownOutputs.{settled_holds}
use Rattle.replay.proofs.laws.settled_bits_hold.Goals as goal

pub returns : goal.returns
returns c = settled_holds
