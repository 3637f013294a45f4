-- The list is at its end exactly if there is no candidate.
use Rattle.diagnosis.proofs.Nexts.{ends_without_candidates}
use Rattle.diagnosis.proofs.next.ends_without_candidates.Goals as goal

pub returns : goal.returns
returns c = ends_without_candidates
