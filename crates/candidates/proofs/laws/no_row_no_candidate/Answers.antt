-- Without a row there is no candidate.
use Rattle.candidates.proofs.RowsOfCandidates.{no_row_no_candidate}
use Rattle.candidates.proofs.laws.no_row_no_candidate.Goals as goal

pub returns : goal.returns
returns c = no_row_no_candidate
