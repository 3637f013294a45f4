-- Each turn keeps the trail true to the question, and makes its weight less.
use Rattle.assignment.specs.Trail.{digit, weight}
use Rattle.ternary.specs.Search.{Turn, decisions_of}
use Rattle.ternary.proofs.TernarySearch.search.Given as goal

abbrev pub invariant-loop-self : goal.invariant-loop-self
invariant-loop-self l = Turn l.initial.self l.self l.assumed l.len

abbrev pub decreases-loop-self : goal.decreases-loop-self
decreases-loop-self l = weight (digit (decisions_of l.self) l.len) l.initial.self.limit
