-- The lowest row marks the first candidate.
use Rattle.candidates.proofs.LowestRow.{lowest_row_is_first}
use Rattle.candidates.proofs.laws.lowest_row_is_first.Goals as goal

pub returns : goal.returns
returns c = lowest_row_is_first
