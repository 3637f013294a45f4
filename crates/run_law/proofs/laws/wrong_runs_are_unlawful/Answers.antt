-- None of the wrong runs is lawful.
use Rattle.run_law.proofs.Unlawful.{wrong_runs_unlawful}
use Rattle.run_law.proofs.laws.wrong_runs_are_unlawful.Goals as goal

pub returns : goal.returns
returns c = wrong_runs_unlawful
