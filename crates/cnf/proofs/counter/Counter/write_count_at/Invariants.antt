use Rattle.std.proofs.Common.{suc, ◌++◌}
use Rattle.std.specs.List.{flat_map}
use Rattle.cnf_theory.specs.Literals.{integers}
use Rattle.cnf_theory.specs.Counter.{from, carry, step}
use Rattle.cnf.proofs.counter.Counter.write_count_at.Given as goal

abbrev pub invariant-loop-j : goal.invariant-loop-j
invariant-loop-j g l = g.K.ClauseSink.ready l.sink × g.K.ClauseSink.took l.initial.sink (integers (flat_map (λ k. carry l.self.gates l.self.bound.value (suc l.before) k ++ step l.self.gates l.self.bound.value (suc l.before) k) (from 1 l.j))) l.sink
