use Rattle.evaluation.proofs.Covered.{evaluation_covers}
use Rattle.evaluation.proofs.evaluation_covers.Goals as goal

pub returns : goal.returns
returns c = evaluation_covers
