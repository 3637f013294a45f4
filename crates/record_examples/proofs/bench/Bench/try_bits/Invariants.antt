use Rattle.std.proofs.Common.{◌≡◌}
use Rattle.record_examples.proofs.bench.Bench.try_bits.Given as goal

abbrev pub invariant-loop-i : goal.invariant-loop-i
invariant-loop-i l = l.self.circuit ≡ l.fn.self.circuit

abbrev pub invariant-loop-mask : goal.invariant-loop-mask
invariant-loop-mask l = l.self.circuit ≡ l.fn.self.circuit
