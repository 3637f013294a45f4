-- The answer of the solver below is the answer here.
use Rattle.std.proofs.Common.{◌≡◌, true, sym}
use Rattle.solver.specs.Rows.{all_named}
use Rattle.solver.proofs.Refusals.{solve_accepted}
use Rattle.splitter.specs.Stands.{over}
use Rattle.splitter.proofs.Solving.{known_below, solved, stays}
use Rattle.splitter.proofs.calls.SplitterSolver.solve.Goals as goal

pub solve_taken-requires : goal.solve_taken-requires
solve_taken-requires g c =
    let w = c.args.self.now in
    let b = g.S.Solver.meaning w.below in
    let a = c.args.assumed.now in
    let known : all_named w.vars a ≡ true = sym c.if-not-all_named.ensures in
    record { sound = c.requires.0; taken = solve_accepted b a (known_below b w.vars w.account.fresh w.account.room c.requires.1 a known b) }

pub returns : goal.returns
returns g c =
    let w = c.args.self.now in
    let b = g.S.Solver.meaning w.below in
    let n = g.S.Solver.meaning c.solve_taken.new.below in
    let a = c.args.assumed.now in
    let known : all_named w.vars a ≡ true = sym c.if-not-all_named.ensures in
    let h = c.solve_taken.ensures.solved in
    record {
      refused = solve_accepted (over b w.vars w.account.room) a known;
      cases = solved b w.vars w.account.fresh w.account.room c.requires.1 a known n c.solve_taken.result h;
      sound = (c.solve_taken.ensures.sound, stays b w.vars w.account.fresh w.account.room c.requires.1 a known n h.kept);
    }
