-- The masks so far say what the literals so far say.
use Rattle.std.proofs.Common.{◌≡◌, ℕ, true, take}
use Rattle.solver.specs.Rows.{all_named}
use Rattle.row_walker.specs.Masks.{Means}
use Rattle.row_walker.proofs.clause.Clause.of.Given as goal

abbrev pub invariant-loop-literal : goal.invariant-loop-literal
invariant-loop-literal l = (vars : ℕ) → all_named vars l.literals ≡ true → Means vars (take l.literal-index l.literals) l.clause
