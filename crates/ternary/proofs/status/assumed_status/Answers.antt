-- One assumed literal more is true, or it is a conflict or forced.
use Rattle.std.proofs.Common.{length, get_or, pos, sym, ◌∙◌, w32, SFits, rules}
use Rattle.std.proofs.lemmas.Int.{to_z-of_z}
use Rattle.std.proofs.lemmas.Bool.{false≢true}
use Rattle.solver.specs.Rows.{named, holds}
use Rattle.solver.proofs.Lists.{all_at}
use Rattle.assignment.proofs.Statuses.{place_some, named_some}
use Rattle.ternary.proofs.status.assumed_status.Goals as goal

pub returns-in-False : goal.returns-in-False
returns-in-False c = λ row e h.
    let x = get_or c.args.assumed.now c.loop-literal.literal-index (pos 0) in
    let fits : SFits w32 (get_or c.args.assumed.now c.loop-literal.literal-index (pos 0)) = search rules in
    let n = all_at (named (length c.args.values.now)) c.args.assumed.now c.loop-literal.literal-index (pos 0) c.loop-literal-test.true c.requires in
    let t = all_at (holds row) c.args.assumed.now c.loop-literal.literal-index (pos 0) c.loop-literal-test.true h in
    false≢true (sym ((rw (to_z-of_z w32 _ fits) at c.in-False.ensures) row e) ∙ place_some row x (named_some _ x n) ∙ t)
