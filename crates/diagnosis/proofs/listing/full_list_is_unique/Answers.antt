-- There is one full list.
use Rattle.diagnosis.proofs.Listed.{full_list_unique}
use Rattle.diagnosis.proofs.listing.full_list_is_unique.Goals as goal

pub returns : goal.returns
returns c = full_list_unique
