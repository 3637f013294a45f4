-- The set of the gates that are marked.
--   marked           the marked gates among 1 to n, in order
--   count            how many of the gates 1 to n are marked
--   MarkedGatesSet   the marked gates are a set with just those marks, of that count; and a set is what it marks
use Rattle.std.specs.Prelude.{◌≡◌, ℕ, zero, suc, ◌≤◌, cond, List, [], ◌∷◌, length}
use Rattle.diagnosis.specs.Sets.{Marks, member, IsSet}

-- the marked ones of m numbers from a on
abbrev pub marked_from : Marks → ℕ → ℕ → List ℕ
marked_from s a zero = []
marked_from s a (suc m) = cond (s a) (a ∷ marked_from s (suc a) m) (marked_from s (suc a) m)

abbrev pub marked : Marks → ℕ → List ℕ
marked s n = marked_from s 1 n

abbrev pub count : Marks → ℕ → ℕ
count s zero = 0
count s (suc n) = cond (s (suc n)) (suc (count s n)) (count s n)

pub record MarkedGatesSet : Type 0 where
  pub set : (s : Marks) (n : ℕ) → IsSet n (marked s n)
  pub marks : (s : Marks) (n g : ℕ) → 1 ≤ g → g ≤ n → member (marked s n) g ≡ s g
  pub size : (s : Marks) (n : ℕ) → length (marked s n) ≡ count s n
  pub own : (n : ℕ) (S : List ℕ) → IsSet n S → marked (member S) n ≡ S
