-- Lists whose elements are tested one by one.
use Rattle.std.proofs.Common.{◌≡◌, ℕ, zero, suc, ◌+◌, ◌<◌, Bool, true, ◌&&◌, List, [], ◌∷◌, ◌++◌, length, get_or, take, set, refl, le_of_suc-le-suc, not-suc-le-zero}
use Rattle.std.proofs.lemmas.Bool.{and_from, and_parts}
use Rattle.std.proofs.lemmas.List.{take_more_set}
use Rattle.std.proofs.lemmas.List.Folds.{list_all-append}
use Rattle.std.specs.List.{list_all}

module _ {X : Type 0} (p : X → Bool) where
  pub all_append : (xs ys : List X) → list_all p (xs ++ ys) ≡ (list_all p xs && list_all p ys)
  all_append xs ys = list_all-append p xs ys

  -- where all pass, the one at i does
  pub all_at : (xs : List X) (i : ℕ) (d : X) → i < length xs → list_all p xs ≡ true → p (get_or xs i d) ≡ true
  all_at [] i d l h = absurd (not-suc-le-zero l)
  all_at (x ∷ xs) zero d l h = (and_parts _ _ h).0
  all_at (x ∷ xs) (suc i) d l h = all_at xs i d (le_of_suc-le-suc l) (and_parts (p x) _ h).1

  -- one element more, written behind the first i
  pub all_written : (xs : List X) (i : ℕ) (y : X) → i < length xs → list_all p (take i xs) ≡ true → p y ≡ true → list_all p (take (i + 1) (set xs i y)) ≡ true
  all_written xs i y l h t = rw (take_more_set xs i y l, all_append) (and_from _ _ h (and_from _ _ t refl))

-- what passes one test passes another that asks less
pub all_weaker : {X : Type 0} (p q : X → Bool) → ((x : X) → p x ≡ true → q x ≡ true) → (xs : List X) → list_all p xs ≡ true → list_all q xs ≡ true
all_weaker p q f [] h = refl
all_weaker p q f (x ∷ xs) h = let r = and_parts (p x) _ h in and_from _ _ (f x r.0) (all_weaker p q f xs r.1)
