use Rattle.std.specs.List.{AllByRecursion}
use Rattle.cnf_theory.specs.Literals.{integers}
use Rattle.cnf_theory.specs.Formula.{output_clauses}
use Rattle.cnf.specs.Code.{Near}
use Rattle.cnf.proofs.tests.write_outputs.Given as goal

-- the clauses of the outputs that are left, taken now, make those of all outputs
abbrev pub invariant-loop-output : goal.invariant-loop-output
invariant-loop-output g l =
    g.K.ClauseSink.ready l.sink
    × AllByRecursion Near l.output-iterator.a.rest.now
    × ((t : g.row.K.Denot) → g.K.ClauseSink.took l.sink (integers (output_clauses l.variables.base l.variables.inputs l.output-iterator.a.rest.now l.output-iterator.b.rest.now)) t → g.K.ClauseSink.took l.initial.sink (integers (output_clauses l.variables.base l.variables.inputs l.outputs l.measured)) t)
