-- The threes below say of the variables in use here what the clause says.
use Rattle.std.proofs.Common.{◌≡◌, ◌+◌, ◌≤◌, true, length, sym, refl, ap, arith}
use Rattle.solver.specs.Rows.{all_named, price}
use Rattle.solver.proofs.Rows.{all_named_up}
use Rattle.solver.proofs.Refusals.{add_accepted}
use Rattle.splitter.specs.Sizes.{sizes_over}
use Rattle.splitter.specs.Chains.{Split}
use Rattle.splitter.specs.Stands.{over}
use Rattle.splitter.proofs.Splitting.{fresh_paid, split_only, split_each, split_sound}
use Rattle.splitter.proofs.calls.SplitterSolver.add.Goals as goal

pub add_in_threes-requires : goal.add_in_threes-requires
add_in_threes-requires g c =
    let w = c.args.self.now in
    let xs = c.args.clause.now in
    let s = c.requires.1 in
    let known = sym c.if-not-all_named.ensures in
    let left = c.if-price-self.false in
    let cost = c.price-price.ensures in
    record {
      sound = c.requires.0;
      named = all_named_up w.vars (w.vars + w.account.fresh) (omega arith) xs known;
      fresh = omega (arith, s.in_use, s.enough, left, cost, fresh_paid (length xs));
      room = omega (arith, s.roomy, left, cost);
    }

pub returns : goal.returns
returns g c =
    let w = c.args.self.now in
    let xs = c.args.clause.now in
    let b = g.S.Solver.meaning w.below in
    let n = g.S.Solver.meaning c.add_in_threes.new.below in
    let s = c.requires.1 in
    let known : all_named w.vars xs ≡ true = sym c.if-not-all_named.ensures in
    let split : Split b xs (w.vars + w.account.fresh) n = c.add_in_threes.ensures.split in
    let cost = c.price-price.ensures in
    let left = c.if-price-self.false in
    let fits : price (length xs) ≤ w.account.room = omega (arith, left, cost) in
    let after = c.charge.new.self in
    record {
      refused = add_accepted (over b w.vars w.account.room) xs (omega (arith, c.if-clause-width.false, c.width.ensures)) known fits;
      cases = record {
        sizes = ap sizes_over split.sizes;
        vars = refl;
        only = split_only b w.vars w.account.fresh w.account.room s xs known n split after.room;
        each = split_each b w.vars w.account.fresh w.account.room s xs known n split after.room;
        room = omega (arith, c.charge.ensures.room, cost);
        shown = split.shown;
      };
      sound = (c.add_in_threes.ensures.sound, split_sound b w.vars w.account.fresh w.account.room s xs known n split after.fresh after.room c.charge.ensures.fresh (omega (arith, c.charge.ensures.room, cost)));
    }
