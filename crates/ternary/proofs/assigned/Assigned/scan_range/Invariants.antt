-- The clauses so far are true, or a literal of one is open.
use Rattle.assignment.proofs.Statuses.{Scanned}
use Rattle.ternary.proofs.assigned.Assigned.scan_range.Given as goal

abbrev pub invariant-loop-k : goal.invariant-loop-k
invariant-loop-k l = Scanned l.self.values.now l.self.places.now l.from l.k l.open
