use Rattle.evaluation.proofs.GateImages.{gate_law}
use Rattle.evaluation.proofs.gates_follow_the_law.Goals as goal

pub returns : goal.returns
returns c = gate_law
