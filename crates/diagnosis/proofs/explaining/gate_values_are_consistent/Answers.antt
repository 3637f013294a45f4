-- The simulated values are the only consistent ones.
use Rattle.diagnosis.proofs.Consistent.{gate_values_consistent}
use Rattle.diagnosis.proofs.explaining.gate_values_are_consistent.Goals as goal

pub returns : goal.returns
returns c = gate_values_consistent
