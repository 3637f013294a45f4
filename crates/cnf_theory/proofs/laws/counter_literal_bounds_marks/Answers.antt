-- A count that is assumed not to be reached bounds the marks.
use Rattle.cnf_theory.proofs.Theorem.{counts_to}
use Rattle.cnf_theory.proofs.laws.counter_literal_bounds_marks.Goals as goal

pub returns : goal.returns
returns c = counts_to
