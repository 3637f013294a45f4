-- The clause joins those in use, and says there what its literals say.
use Rattle.std.proofs.Common.{sym, arith}
use Rattle.solver.proofs.Rows.{all_named_up}
use Rattle.row_walker.proofs.calls.RowWalkerSolver.add.Goals as goal

pub of-requires : goal.of-requires
of-requires c =
    let w = c.args.self.now in
    all_named_up w.vars 32 (omega (arith, w.in_range)) c.args.clause.now (sym c.if-not-all_named.ensures)
