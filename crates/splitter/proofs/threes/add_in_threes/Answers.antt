-- A short clause is taken as it is, and a long one in threes.
use Rattle.std.proofs.Common.{◌≤◌, length, arith}
use Rattle.solver.proofs.Rows.{all_named_up}
use Rattle.solver.proofs.Refusals.{add_accepted}
use Rattle.splitter.proofs.Chaining.{split_short}
use Rattle.splitter.proofs.threes.add_in_threes.Goals as goal

pub add_taken-requires : goal.add_taken-requires
add_taken-requires g c =
    let m = g.S.Solver.meaning c.args.below.now in
    let xs = c.args.clause.now in
    let b = g.S.Solver.bounded c.args.below.now c.requires.sound in
    let short = c.if-clause-le3.true in
    let room = c.requires.fresh in
    let wide = b.wide in
    let fits : length xs ≤ m.sizes.width = omega arith in
    record { sound = c.requires.sound; taken = add_accepted m xs fits (all_named_up c.args.last m.vars (omega arith) xs c.requires.named) c.requires.room }

pub returns-then-clause-le3 : goal.returns-then-clause-le3
returns-then-clause-le3 g c =
    record { sound = c.add_taken.ensures.sound; split = split_short _ _ c.args.clause.now c.args.last c.if-clause-le3.true c.add_taken.ensures.added }
