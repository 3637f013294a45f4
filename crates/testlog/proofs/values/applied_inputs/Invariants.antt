use Rattle.std.proofs.Common.{◌≡◌, take}
use Rattle.inline_list.specs.Listed.{listed}
use Rattle.test_format.specs.Packing.{unpack}
use Rattle.testlog.proofs.values.applied_inputs.Given as goal

abbrev pub invariant-loop-i : goal.invariant-loop-i
invariant-loop-i l = listed l.inputs ≡ take l.i (unpack l.group)
