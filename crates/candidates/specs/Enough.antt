-- Whether a solver is large enough for what it is handed.
--   enough   its capacity, width and full room are at least the variables, the longest clause and the summed prices of the clauses added
use Rattle.std.specs.Prelude.{ℕ, Bool, ◌&&◌, List, nat_le}
use Rattle.circuit.specs.Circuits.{Circuit}
use Rattle.circuit.specs.Tests.{Test}
use Rattle.solver.specs.Meaning.{Sizes}
use Rattle.cnf_theory.specs.Variables.{variables}
use Rattle.cnf_theory.specs.Sizes.{prices, longest}
use Rattle.candidates.specs.Added.{added}

abbrev pub enough : Circuit → List Test → ℕ → List (List ℕ) → Sizes → Bool
enough c ts N given z =
    nat_le (variables c ts N) z.capacity
    && (nat_le (longest (added c ts N given)) z.width && nat_le (prices (added c ts N given)) z.full)
