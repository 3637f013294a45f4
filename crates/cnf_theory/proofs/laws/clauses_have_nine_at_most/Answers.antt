-- No clause has more than nine literals.
use Rattle.cnf_theory.proofs.Lengths.{nine_at_most}
use Rattle.cnf_theory.proofs.laws.clauses_have_nine_at_most.Goals as goal

pub returns : goal.returns
returns c = nine_at_most
