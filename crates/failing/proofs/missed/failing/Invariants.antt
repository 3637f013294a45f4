use Rattle.std.proofs.Common.{◌≡◌, ◌≤◌, ◌++◌, map, length, drop}
use Rattle.circuit.specs.Held.{circuit_of}
use Rattle.inline_list.specs.Listed.{listed}
use Rattle.testlog.specs.Held.{test_of}
use Rattle.failing.specs.Missed.{missed}
use Rattle.failing.proofs.missed.failing.Given as goal

abbrev pub invariant-loop-t : goal.invariant-loop-t
invariant-loop-t l = record {
  one_each : length (listed l.missed) ≡ l.t;
  few : length l.held ≤ 32;
  filled : listed l.missed ++ map (λ x. missed (circuit_of l.circuit) (test_of x)) (drop l.t l.held) ≡ map (λ x. missed (circuit_of l.circuit) (test_of x)) l.held;
}
