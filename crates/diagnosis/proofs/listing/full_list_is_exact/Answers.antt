-- The list that computes is the full list.
use Rattle.diagnosis.proofs.Listed.{full_list_exact}
use Rattle.diagnosis.proofs.listing.full_list_is_exact.Goals as goal

pub returns : goal.returns
returns c = full_list_exact
