use Rattle.std.proofs.Common.{◌≡◌, map, length, take}
use Rattle.inline_list.specs.Listed.{listed}
use Rattle.signal_value.specs.Possible.{only}
use Rattle.signal_value.specs.Kept.{known}
use Rattle.replay.proofs.unknown.known_inputs.Given as goal

abbrev pub invariant-loop-bit : goal.invariant-loop-bit
invariant-loop-bit l = record {
  one_each : length (listed l.known) ≡ l.bit-index;
  known_so_far : map known (listed l.known) ≡ map only (take l.bit-index l.inputs);
}
