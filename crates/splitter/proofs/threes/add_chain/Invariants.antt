-- What is left of the chain says, with the rows now allowed, what the whole said at first.
use Rattle.std.proofs.Common.{◌≡◌, ◌+◌, true, drop}
use Rattle.solver.specs.Rows.{named, holds}
use Rattle.splitter.specs.Chains.{chain, in_threes}
use Rattle.splitter.proofs.Chaining.{Partly}
use Rattle.splitter.proofs.threes.add_chain.Given as goal

abbrev pub invariant-loop-next : goal.invariant-loop-next
invariant-loop-next g l =
    let m = g.S.Solver.meaning l.initial.below in
    let n = g.S.Solver.meaning l.below in
    g.S.Solver.sound l.below
    × (l.fresh ≡ l.last + l.next-index)
    × (named n.vars l.head ≡ true)
    × Partly m (λ row. in_threes row l.clause l.last) n (λ row. chain row (holds row l.head) (drop (l.next-index + 1) l.clause) l.fresh) l.next-index
