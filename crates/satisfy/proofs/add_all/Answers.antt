-- One clause more is added, or the first that is refused ends the walk.
use Rattle.std.proofs.Common.{◌≡◌, Ok, sym, ap, ◌∙◌, rules}
use Rattle.std.proofs.lemmas.Result.{MatchResult-at_ok}
use Rattle.solver.specs.Refusals.{refusal}
use Rattle.satisfy.proofs.Adding.{narrowed_more, adds_more}
use Rattle.satisfy.proofs.add_all.Goals as goal

pub loop-clause-preserved : goal.loop-clause-preserved
loop-clause-preserved g c =
    let m = g.S.Solver.meaning c.args.solver.now in
    let n = g.S.Solver.meaning c.loop-clause.solver in
    let k = g.S.Solver.meaning c.add.new.self in
    let cs = c.args.clauses.now in
    let i = c.loop-clause.clause-index in
    let h = c.loop-clause.invariant in
    let at = c.loop-clause-test.true in
    let taken : c.add.result ≡ Ok tt = search rules in
    let a = MatchResult-at_ok _ _ tt taken c.add.ensures.cases in
    let asked = ap refusal (sym taken) ∙ c.add.ensures.refused in
    (c.add.ensures.sound, narrowed_more m n k cs i _ at h.1 a, h.2 ∙ adds_more m n cs i _ at h.1 k asked a)
