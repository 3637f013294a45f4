-- The first candidate comes next.
use Rattle.diagnosis.proofs.Nexts.{first_candidate_is_next}
use Rattle.diagnosis.proofs.next.first_candidate_is_next.Goals as goal

pub returns : goal.returns
returns c = first_candidate_is_next
