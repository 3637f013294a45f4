-- Each literal's variable is one of the formula's.
use Rattle.cnf_theory.proofs.Range.{within_variables}
use Rattle.cnf_theory.proofs.laws.literals_name_variables.Goals as goal

pub returns : goal.returns
returns c = within_variables
