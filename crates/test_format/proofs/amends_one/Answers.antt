use Rattle.test_format.proofs.OneOutput.{amends_one}
use Rattle.test_format.proofs.amends_one.Goals as goal

pub returns : goal.returns
returns c = amends_one
