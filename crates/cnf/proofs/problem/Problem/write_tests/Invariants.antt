use Rattle.std.proofs.Common.{map, take}
use Rattle.circuit.specs.Held.{circuit_of}
use Rattle.testlog.specs.Held.{test_of}
use Rattle.cnf_theory.specs.Literals.{integers}
use Rattle.cnf_theory.specs.Formula.{tests_clauses}
use Rattle.cnf.proofs.problem.Problem.write_tests.Given as goal

abbrev pub invariant-loop-t : goal.invariant-loop-t
invariant-loop-t g l = g.K.ClauseSink.ready l.sink × g.K.ClauseSink.took l.initial.sink (integers (tests_clauses (circuit_of l.self.circuit.now) l.self.bound.value 0 (map test_of (take l.t l.test-items)))) l.sink
