use Rattle.evaluation.proofs.Known.{evaluation_of_bits}
use Rattle.evaluation.proofs.evaluation_of_bits.Goals as goal

pub returns : goal.returns
returns c = evaluation_of_bits
