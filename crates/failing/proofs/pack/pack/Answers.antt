-- One bit more, from the last to the first.
use Rattle.std.proofs.Common.{arith}
use Rattle.failing.proofs.Packed.{next_fits}
use Rattle.failing.proofs.pack.pack.Goals as goal

pub overflow_mul-word : goal.overflow_mul-word
overflow_mul-word c = omega (arith, next_fits _ _ c.next.new.self.iter.rest.now c.in-Some.bit.now _ c.in-Some.ensures.steps c.loop-bit.invariant c.from.result c.from.ensures c.requires)

pub overflow_add-word : goal.overflow_add-word
overflow_add-word c = omega (arith, next_fits _ _ c.next.new.self.iter.rest.now c.in-Some.bit.now _ c.in-Some.ensures.steps c.loop-bit.invariant c.from.result c.from.ensures c.requires)
