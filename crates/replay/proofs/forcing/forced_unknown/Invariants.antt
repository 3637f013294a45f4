use Rattle.std.proofs.Common.{◌≡◌, ◌++◌, length, drop}
use Rattle.inline_list.specs.Listed.{listed}
use Rattle.replay.specs.ForcedSets.{forced_unknown}
use Rattle.replay.proofs.forcing.forced_unknown.Given as goal

abbrev pub invariant-loop-gate : goal.invariant-loop-gate
invariant-loop-gate l = record {
  one_each : length (listed l.forced) ≡ l.gate-index;
  forced_so_far : listed l.forced ++ forced_unknown (drop l.gate-index l.set) ≡ forced_unknown l.set;
}
