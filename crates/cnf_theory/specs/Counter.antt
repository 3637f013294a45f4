-- The counter: clauses which say that at most N of G gates are marked.
--   from       n numbers, from a on
--   carry      a count that is reached at the gate before is reached at gate g
--   step       a mark at gate g adds one to the count
--   count_at   the clauses of gate g: for each count, the carry and then the step
--   counter    the clauses of all gates
--   limit      the count k + 1 is not reached at the last gate; a circuit without gates has nothing to limit
use Rattle.std.specs.Prelude.{ℕ, zero, suc, List, [], ◌∷◌, ◌++◌}
use Rattle.std.specs.List.{flat_map}
use Rattle.cnf_theory.specs.Literals.{positive, negative, Clause}
use Rattle.cnf_theory.specs.Variables.{count_variable}

abbrev pub from : ℕ → ℕ → List ℕ
from a zero = []
from a (suc n) = a ∷ from (suc a) n

abbrev pub carry : ℕ → ℕ → ℕ → ℕ → List Clause
carry G N zero k = []
carry G N (suc zero) k = []
carry G N (suc (suc h)) k = (negative (count_variable G N (suc h) k) ∷ positive (count_variable G N (suc (suc h)) k) ∷ []) ∷ []

-- the count 1 by the mark alone; a higher one if the gate before has reached one less, so not at the first gate
abbrev pub step : ℕ → ℕ → ℕ → ℕ → List Clause
step G N g zero = []
step G N g (suc zero) = (negative g ∷ positive (count_variable G N g 1) ∷ []) ∷ []
step G N zero (suc (suc k)) = []
step G N (suc zero) (suc (suc k)) = []
step G N (suc (suc h)) (suc (suc k)) = (negative (suc (suc h)) ∷ negative (count_variable G N (suc h) (suc k)) ∷ positive (count_variable G N (suc (suc h)) (suc (suc k))) ∷ []) ∷ []

abbrev pub count_at : ℕ → ℕ → ℕ → List Clause
count_at G N g = flat_map (λ k. carry G N g k ++ step G N g k) (from 1 (suc N))

abbrev pub counter : ℕ → ℕ → List Clause
counter G N = flat_map (count_at G N) (from 1 G)

abbrev pub limit : ℕ → ℕ → ℕ → List Clause
limit zero N k = []
limit (suc h) N k = (negative (count_variable (suc h) N (suc h) (suc k)) ∷ []) ∷ []
