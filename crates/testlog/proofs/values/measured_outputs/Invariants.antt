use Rattle.std.proofs.Common.{◌≡◌, ◌≤◌, ◌++◌, length, drop}
use Rattle.inline_list.specs.Listed.{listed}
use Rattle.test_format.specs.Packing.{unpack}
use Rattle.test_format.specs.Records.{map_of, filled}
use Rattle.testlog.proofs.values.measured_outputs.Given as goal

abbrev pub invariant-loop-i : goal.invariant-loop-i
invariant-loop-i l = record {
  read : listed l.outputs ++ filled (drop l.i (map_of l.count l.map)) (drop l.next (unpack l.values)) ≡ filled (map_of l.count l.map) (unpack l.values);
  one_each : length (listed l.outputs) ≡ l.i;
  few_values : l.next ≤ l.i;
}
