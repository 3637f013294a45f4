-- The candidate that was found gate by gate comes next.
use Rattle.diagnosis.proofs.Nexts.{next_by_gates}
use Rattle.diagnosis.proofs.next.next_by_gates.Goals as goal

pub returns : goal.returns
returns c = next_by_gates
