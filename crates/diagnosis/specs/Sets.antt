-- Sets of gates: ascending lists of their numbers.
--   Marks     for every gate number, whether it is marked
--   member    whether a number is in a set; so a set marks its gates
--   Ascends   a list ascends from a number on, up to another
--   IsSet     a set of the gates 1 to n
--   Within    each gate of one set is in the other
--   Proper    within, but not the whole
--   without   a set that one gate was dropped from
use Rattle.std.specs.Prelude.{◌≡◌, ℕ, suc, ◌≤◌, Bool, true, false, cond, ◌||◌, List, [], ◌∷◌, ◌==◌, ◌≢◌}

abbrev pub Marks : Type 0
Marks = ℕ → Bool

abbrev pub member : List ℕ → Marks
member [] g = false
member (x ∷ xs) g = g == x || member xs g

abbrev pub Ascends : ℕ → ℕ → List ℕ → Type 0
Ascends a n [] = Unit {0}
Ascends a n (x ∷ xs) = (a ≤ x) × (x ≤ n) × Ascends (suc x) n xs

abbrev pub IsSet : ℕ → List ℕ → Type 0
IsSet n S = Ascends 1 n S

abbrev pub Within : List ℕ → List ℕ → Type 0
Within T S = (g : ℕ) → member T g ≡ true → member S g ≡ true

abbrev pub Proper : List ℕ → List ℕ → Type 0
Proper T S = Within T S × (T ≢ S)

abbrev pub without : ℕ → List ℕ → List ℕ
without g [] = []
without g (x ∷ xs) = cond (g == x) (without g xs) (x ∷ without g xs)
