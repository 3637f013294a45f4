-- A literal that is false leaves the status as it was.
use Rattle.std.proofs.Common.{w32}
use Rattle.std.proofs.lemmas.Int.{to_z-of_z}
use Rattle.assignment.proofs.Statuses.{with_false}
use Rattle.ternary.proofs.status.with_literal.Goals as goal

pub returns-in-False : goal.returns-in-False
returns-in-False c f = with_false c.args.values.now f c.args.literal (rw (to_z-of_z w32 c.args.literal c.ranges.literal) at c.in-False.ensures) c.args.before
