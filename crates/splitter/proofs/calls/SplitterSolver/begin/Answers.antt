-- The solver below has begun with the variables in use here and all fresh ones.
use Rattle.std.proofs.Common.{◌+◌, sym, refl, ap, ◌∙◌, arith}
use Rattle.solver.specs.Meaning.{Begun}
use Rattle.solver.proofs.Refusals.{begin_accepted}
use Rattle.splitter.specs.Sizes.{full_over, sizes_over}
use Rattle.splitter.specs.Stands.{over}
use Rattle.splitter.proofs.calls.SplitterSolver.begin.Goals as goal

pub returns : goal.returns
returns g c =
    let w = c.args.self.now in
    let m = g.S.Solver.meaning w.below in
    let n = g.S.Solver.meaning c.begin_taken.new.below in
    let some = c.capacity.ensures in
    let within = c.if-vars-capacity.false in
    let full = c.full_room-full.ensures in
    let none = c.of-self.ensures.fresh in
    let all = c.of-self.ensures.room in
    let b : Begun m (c.args.vars + c.full_room-full.result) n = c.begin_taken.ensures.begun in
    record {
      refused = begin_accepted (over m w.vars w.account.room) c.args.vars (omega arith);
      cases = record {
        sizes = ap sizes_over b.sizes;
        vars = refl;
        every = λ row. (row, (λ v _ _. refl), b.every row);
        room = all ∙ full;
        shown = b.shown;
      };
      sound = (
        c.begin_taken.ensures.sound,
        record {
          in_use = b.vars ∙ ap (λ k. c.args.vars + k) (full ∙ ap full_over (sym b.sizes));
          roomy = omega (arith, b.room, full, all);
          enough = omega (arith, full, ap full_over b.sizes, none, all);
          free = λ x y _ _. b.every y;
        },
      );
    }
