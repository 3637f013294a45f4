use Rattle.failing.proofs.Packed.{PackedSoFar}
use Rattle.failing.proofs.pack.pack.Given as goal

abbrev pub invariant-loop-bit : goal.invariant-loop-bit
invariant-loop-bit l = PackedSoFar l.bits l.bit-iterator.iter.rest.now l.word
