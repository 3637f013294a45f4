-- The formula says that few gates are marked and explain.
use Rattle.cnf_theory.proofs.Theorem.{says_explains}
use Rattle.cnf_theory.proofs.laws.formula_says_explains.Goals as goal

pub returns : goal.returns
returns c = says_explains
