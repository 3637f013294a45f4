-- One gate more, from the last to the first.
use Rattle.std.proofs.Common.{arith}
use Rattle.lister.proofs.ReadingBytes.{byte_few, bit_few}
use Rattle.lister.proofs.readings.read_test.Goals as goal

pub overflow_mul-byte : goal.overflow_mul-byte
overflow_mul-byte g c = let few = byte_few _ _ c.next.new.self.iter.rest.now c.in-Some.gate.now _ _ c.in-Some.ensures.steps c.loop-gate.invariant c.requires.sizes.1.1 in omega arith

pub overflow_add-byte : goal.overflow_add-byte
overflow_add-byte g c =
    let few = byte_few _ _ c.next.new.self.iter.rest.now c.in-Some.gate.now _ _ c.in-Some.ensures.steps c.loop-gate.invariant c.requires.sizes.1.1 in
    let bit = bit_few c.forced_value.result in
    let e = c.from.ensures in
    omega arith
