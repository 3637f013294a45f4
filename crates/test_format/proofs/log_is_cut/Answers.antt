use Rattle.test_format.proofs.Pieces.{log_is_cut}
use Rattle.test_format.proofs.log_is_cut.Goals as goal

pub returns : goal.returns
returns c = log_is_cut
