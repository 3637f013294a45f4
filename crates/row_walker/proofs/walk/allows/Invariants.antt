-- The clauses left are true in the row if all are.
use Rattle.std.proofs.Common.{◌≡◌, drop}
use Rattle.std.specs.List.{list_all}
use Rattle.row_walker.specs.Masks.{row_of, clause_true}
use Rattle.row_walker.proofs.walk.allows.Given as goal

abbrev pub invariant-loop-clause : goal.invariant-loop-clause
invariant-loop-clause l = list_all (clause_true (row_of l.row)) (drop l.clause-index l.clauses) ≡ list_all (clause_true (row_of l.row)) l.clauses
