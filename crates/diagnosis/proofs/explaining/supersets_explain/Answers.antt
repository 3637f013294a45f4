-- With more gates a set still explains.
use Rattle.diagnosis.proofs.Dropped.{supersets_explain}
use Rattle.diagnosis.proofs.explaining.supersets_explain.Goals as goal

pub returns : goal.returns
returns c = supersets_explain
