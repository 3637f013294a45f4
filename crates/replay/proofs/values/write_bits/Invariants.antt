use Rattle.std.proofs.Common.{◌≡◌, ◌++◌, map, take, drop}
use Rattle.replay.specs.Written.{bit_byte}
use Rattle.replay.proofs.values.write_bits.Given as goal

abbrev pub invariant-loop-i : goal.invariant-loop-i
invariant-loop-i l = l.buffer ≡ map bit_byte (take l.i l.bits) ++ drop l.i l.initial.buffer
