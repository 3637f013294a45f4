-- Writing the lists keeps the rest of the state.
use Rattle.ternary.specs.Stands.{Sound}
use Rattle.ternary.specs.Search.{Same}
use Rattle.std.proofs.Common.{◌+◌, ◌≤◌, length}
use Rattle.ternary.proofs.TernarySearch.list_occurrences.Given as goal

abbrev pub invariant-loop-e : goal.invariant-loop-e
invariant-loop-e l = Sound l.self × Same l.fn.self l.self × (l.vars + l.places ≤ length l.self.occurrences.now)
