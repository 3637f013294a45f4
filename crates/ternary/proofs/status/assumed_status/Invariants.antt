-- The assumed literals so far are true in the row of the values.
use Rattle.std.proofs.Common.{◌≡◌, true, take}
use Rattle.solver.specs.Rows.{all_true}
use Rattle.assignment.specs.Assignment.{row_of}
use Rattle.ternary.proofs.status.assumed_status.Given as goal

abbrev pub invariant-loop-literal : goal.invariant-loop-literal
invariant-loop-literal l = all_true (row_of l.values) (take l.literal-index l.assumed) ≡ true
