use Rattle.std.proofs.Common.{map, take}
use Rattle.circuit.specs.Circuits.{gate_of}
use Rattle.cnf_theory.specs.Literals.{integers}
use Rattle.cnf_theory.specs.Formula.{gates_clauses}
use Rattle.cnf.proofs.gates.write_gates.Given as goal

abbrev pub invariant-loop-before : goal.invariant-loop-before
invariant-loop-before g l = g.K.ClauseSink.ready l.sink × g.K.ClauseSink.took l.initial.sink (integers (gates_clauses l.variables.base l.variables.inputs 1 (map gate_of (take l.before l.gates)))) l.sink
