use Rattle.test_format.proofs.Taken.{taken_is_written}
use Rattle.test_format.proofs.taken_is_written.Goals as goal

pub returns : goal.returns
returns c = taken_is_written
