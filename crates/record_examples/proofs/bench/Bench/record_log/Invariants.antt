use Rattle.std.proofs.Common.{◌≡◌, length}
use Rattle.record_examples.proofs.bench.Bench.record_log.Given as goal

abbrev pub invariant-loop-rest : goal.invariant-loop-rest
invariant-loop-rest l = l.self.circuit ≡ l.fn.self.circuit

abbrev pub decreases-loop-rest : goal.decreases-loop-rest
decreases-loop-rest l = length l.rest
