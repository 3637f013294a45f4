-- The right run is lawful.
use Rattle.run_law.proofs.RightRun.{right_run_lawful}
use Rattle.run_law.proofs.laws.right_run_is_lawful.Goals as goal

pub returns : goal.returns
returns c = right_run_lawful
