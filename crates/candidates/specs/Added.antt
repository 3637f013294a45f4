-- What a solver is handed for the next set of a list, of which some sets were given before.
--   barring   the clause of a set's negated marks: some gate of the set is not marked, so neither the set nor one that contains it comes again
--   added     the clauses of the formula, then a barring clause for each set given, in their order
use Rattle.std.specs.Prelude.{ℕ, List, ◌++◌, map}
use Rattle.circuit.specs.Circuits.{Circuit}
use Rattle.circuit.specs.Tests.{Test}
use Rattle.cnf_theory.specs.Literals.{negative, Clause}
use Rattle.cnf_theory.specs.Formula.{formula}

abbrev pub barring : List ℕ → Clause
barring S = map negative S

abbrev pub added : Circuit → List Test → ℕ → List (List ℕ) → List Clause
added c ts N given = formula c ts N ++ map barring given
