-- The rows so far are those where a literal of the clause is true; the others are as they were.
use Rattle.std.proofs.Common.{◌≡◌, ℕ, ◌<◌, ◌≤◌, ◌&&◌, false, get_or}
use Rattle.std.specs.List.{list_any}
use Rattle.conformance.specs.TruthTables.{true_in}
use Rattle.conformance.proofs.model.Model.add.Given as goal

abbrev pub invariant-loop-row : goal.invariant-loop-row
invariant-loop-row l =
    ((n : ℕ) → n < l.row → get_or l.allowed-items n false ≡ (get_or l.fn.self.allowed n false && list_any (true_in n) l.clause))
    × ((n : ℕ) → l.row ≤ n → get_or l.allowed-items n false ≡ get_or l.fn.self.allowed n false)
