use Rattle.test_format.proofs.OneOutput.{strikes_last}
use Rattle.test_format.proofs.strikes_last.Goals as goal

pub returns : goal.returns
returns c = strikes_last
