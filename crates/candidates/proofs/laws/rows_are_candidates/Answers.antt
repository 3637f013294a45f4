-- The rows of the clauses added are the candidates.
use Rattle.candidates.proofs.RowsOfCandidates.{rows_are_candidates}
use Rattle.candidates.proofs.laws.rows_are_candidates.Goals as goal

pub returns : goal.returns
returns c = rows_are_candidates
