-- The places so far are read, and the others are as they were.
use Rattle.std.proofs.Common.{◌≡◌, ℕ, ◌<◌, ◌≤◌, false, get_or}
use Rattle.satisfy.specs.Questions.{read_at}
use Rattle.satisfy.proofs.read_row.Given as goal

abbrev pub invariant-loop-i : goal.invariant-loop-i
invariant-loop-i g l =
    let m = g.S.Solver.meaning l.solver in
    ((k : ℕ) → k < l.i → get_or l.row k false ≡ read_at m.vars m.shown k (get_or l.initial.row k false))
    × ((k : ℕ) → l.i ≤ k → get_or l.row k false ≡ get_or l.initial.row k false)
