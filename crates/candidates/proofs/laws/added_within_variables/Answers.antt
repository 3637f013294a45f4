-- The variables of the clauses added are the formula's.
use Rattle.candidates.proofs.WithinVariables.{added_within_variables}
use Rattle.candidates.proofs.laws.added_within_variables.Goals as goal

pub returns : goal.returns
returns c = added_within_variables
