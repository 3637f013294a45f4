use Rattle.std.proofs.Common.{◌≡◌, ◌++◌, length, drop}
use Rattle.inline_list.specs.Listed.{listed}
use Rattle.replay.specs.ForcedSets.{forced_bits}
use Rattle.replay.proofs.forcing.forced_bits.Given as goal

abbrev pub invariant-loop-gate : goal.invariant-loop-gate
invariant-loop-gate l = record {
  one_each : length (listed l.forced) ≡ l.gate-index;
  forced_so_far : listed l.forced ++ forced_bits (drop l.gate-index l.set) l.rest ≡ forced_bits l.set l.byte;
}
