-- A set is minimal exactly if no gate can be dropped.
use Rattle.diagnosis.proofs.Dropped.{minimal_when_none_drops}
use Rattle.diagnosis.proofs.listing.minimal_when_none_drops.Goals as goal

pub returns : goal.returns
returns c = minimal_when_none_drops
