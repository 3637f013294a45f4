use Rattle.std.specs.List.{flat_map}
use Rattle.cnf_theory.specs.Literals.{integers}
use Rattle.cnf_theory.specs.Counter.{from, count_at}
use Rattle.cnf.proofs.counter.Counter.write.Given as goal

abbrev pub invariant-loop-before : goal.invariant-loop-before
invariant-loop-before g l = g.K.ClauseSink.ready l.sink × g.K.ClauseSink.took l.initial.sink (integers (flat_map (count_at l.self.gates l.self.bound.value) (from 1 l.before))) l.sink
