-- What explains contains a minimal set.
use Rattle.diagnosis.proofs.Listed.{explaining_contains_minimal}
use Rattle.diagnosis.proofs.listing.explaining_contains_minimal.Goals as goal

pub returns : goal.returns
returns c = explaining_contains_minimal
