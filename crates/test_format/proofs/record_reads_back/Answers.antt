use Rattle.test_format.proofs.ReadBack.{record_reads_back}
use Rattle.test_format.proofs.record_reads_back.Goals as goal

pub returns : goal.returns
returns c = record_reads_back
