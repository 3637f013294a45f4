-- The order of sets.
--   Lower     of ascending lists, compared from the first: at the first place where they differ, the lower number
--   Before    the smaller set; of sets of one size, the lower list
--   In        an element stands in a list
--   InOrder   each set of a list stands before all that follow it
use Rattle.std.specs.Prelude.{◌≡◌, ℕ, ◌<◌, ◌⊎◌, List, [], ◌∷◌, length}

abbrev pub Lower : List ℕ → List ℕ → Type 0
Lower [] ys = ⊥
Lower (x ∷ xs) [] = ⊥
Lower (x ∷ xs) (y ∷ ys) = (x < y) ⊎ ((x ≡ y) × Lower xs ys)

abbrev pub Before : List ℕ → List ℕ → Type 0
Before S T = (length S < length T) ⊎ ((length S ≡ length T) × Lower S T)

abbrev pub In : {A : Type 0} → A → List A → Type 0
In x [] = ⊥
In x (y ∷ ys) = (x ≡ y) ⊎ In x ys

abbrev pub InOrder : List (List ℕ) → Type 0
InOrder [] = Unit {0}
InOrder (S ∷ L) = ((T : List ℕ) → In T L → Before S T) × InOrder L
