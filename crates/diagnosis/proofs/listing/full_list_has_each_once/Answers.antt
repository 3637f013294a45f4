-- No set stands twice in a full list.
use Rattle.diagnosis.proofs.Listed.{full_list_once}
use Rattle.diagnosis.proofs.listing.full_list_has_each_once.Goals as goal

pub returns : goal.returns
returns c = full_list_once
