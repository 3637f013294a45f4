use Rattle.std.proofs.Common.{◌≡◌}
use Rattle.record_examples.proofs.bench.Bench.try_lengths.Given as goal

abbrev pub invariant-loop-byte : goal.invariant-loop-byte
invariant-loop-byte l = l.self.circuit ≡ l.fn.self.circuit
