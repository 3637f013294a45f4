use Rattle.std.proofs.Common.{take}
use Rattle.cnf_theory.specs.Literals.{integers}
use Rattle.cnf_theory.specs.Formula.{input_clauses}
use Rattle.cnf.proofs.tests.write_inputs.Given as goal

abbrev pub invariant-loop-before : goal.invariant-loop-before
invariant-loop-before g l = g.K.ClauseSink.ready l.sink × g.K.ClauseSink.took l.initial.sink (integers (input_clauses l.variables.base 1 (take l.before l.inputs))) l.sink
