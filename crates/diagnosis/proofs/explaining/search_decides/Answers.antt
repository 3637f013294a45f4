-- The search for forced values decides what explains.
use Rattle.diagnosis.proofs.Searched.{search_decides}
use Rattle.diagnosis.proofs.explaining.search_decides.Goals as goal

pub returns : goal.returns
returns c = search_decides
