-- The entries left are recorded, and none behind them was open.
use Rattle.std.proofs.Common.{◌≡◌, ◌≤◌, length}
use Rattle.assignment.specs.Trail.{Recorded, NoOpen}
use Rattle.ternary.specs.Search.{Same, values_of, trail_of, decisions_of}
use Rattle.ternary.proofs.TernarySearch.backtrack.Given as goal

abbrev pub invariant-loop-p : goal.invariant-loop-p
invariant-loop-p l = (l.p ≤ l.len) × Same l.initial.self l.self × (length (values_of l.self) ≡ length (values_of l.initial.self)) × (trail_of l.self ≡ trail_of l.initial.self) × (decisions_of l.self ≡ decisions_of l.initial.self) × Recorded (values_of l.self) (trail_of l.initial.self) l.p × NoOpen (decisions_of l.initial.self) l.p l.len
