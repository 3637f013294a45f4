use Rattle.circuit.proofs.KindsAsNamed.{kinds_as_named}
use Rattle.circuit.proofs.laws.kinds_compute_as_named.Goals as goal

pub returns : goal.returns
returns c = kinds_as_named
