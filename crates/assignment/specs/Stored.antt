-- Clauses stored in three places each, one after another.
--   place_true    whether a place of a clause holds a literal that is true in a row; 0 stands for no literal
--   triple_true   whether one of three places does
--   stored_true   whether the clause k of a store is true in a row
--   StoredTrue    the first clauses of a store, so many, are true in a row
--   Between       the clauses from a first one up to another are true in a row
--   triple_set    a clause of up to three literals written from a place on, 0 where it has none
--   Ranged        each place of the first clauses holds 0 or a literal of the variables 1 to n
--   Wanted        a row in which the first clauses and each assumed literal are true
use Rattle.std.specs.Prelude.{◌≡◌, ℕ, ◌+◌, ◌*◌, ◌<◌, ◌≤◌, Bool, true, false, cond, ◌||◌, List, ℤ, pos, ◌==◌, slice_index_or, slice_set, unsigned_abs}
use Rattle.solver.specs.Rows.{Row, holds, all_true}

abbrev pub place_true : Row → ℤ → Bool
place_true row x = cond (unsigned_abs x == 0) false (holds row x)

abbrev pub triple_true : Row → ℤ → ℤ → ℤ → Bool
triple_true row x y z = (place_true row x || place_true row y) || place_true row z

abbrev pub stored_true : Row → List ℤ → ℕ → Bool
stored_true row xs k = triple_true row (slice_index_or xs (3 * k) (pos 0)) (slice_index_or xs (3 * k + 1) (pos 0)) (slice_index_or xs (3 * k + 2) (pos 0))

abbrev pub StoredTrue : Row → List ℤ → ℕ → Type 0
StoredTrue row xs count = (k : ℕ) → k < count → stored_true row xs k ≡ true

abbrev pub Between : Row → List ℤ → ℕ → ℕ → Type 0
Between row xs from to = (k : ℕ) → from ≤ k → k < to → stored_true row xs k ≡ true

abbrev pub triple_set : List ℤ → ℕ → List ℤ → List ℤ
triple_set xs at c = slice_set (slice_set (slice_set xs at (slice_index_or c 0 (pos 0))) (at + 1) (slice_index_or c 1 (pos 0))) (at + 2) (slice_index_or c 2 (pos 0))

abbrev pub Ranged : List ℤ → ℕ → ℕ → Type 0
Ranged xs count n = (k : ℕ) → k < 3 * count → unsigned_abs (slice_index_or xs k (pos 0)) ≤ n

abbrev pub Wanted : List ℤ → ℕ → List ℤ → Row → Type 0
Wanted xs count a row = StoredTrue row xs count × (all_true row a ≡ true)
