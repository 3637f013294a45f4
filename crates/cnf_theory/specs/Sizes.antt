-- The sizes of a list of clauses: what a solver must have to take them.
--   prices    what all clauses take of a solver's room
--   longest   the length of the longest clause
use Rattle.std.specs.Prelude.{ℕ, ◌+◌, max, List, [], ◌∷◌, length}
use Rattle.solver.specs.Rows.{price}

abbrev pub prices : {X : Type 0} → List (List X) → ℕ
prices [] = 0
prices (c ∷ cs) = price (length c) + prices cs

abbrev pub longest : {X : Type 0} → List (List X) → ℕ
longest [] = 0
longest (c ∷ cs) = max (length c) (longest cs)
