use Rattle.test_format.proofs.Pieces.{log_reads_back}
use Rattle.test_format.proofs.log_reads_back.Goals as goal

pub returns : goal.returns
returns c = log_reads_back
