-- Tests of lists: one element more, a weaker test, a test at a place.
use Rattle.std.proofs.Common.{◌≡◌, ℕ, zero, suc, ◌<◌, Bool, true, List, [], ◌∷◌, ◌++◌, length, get_or, refl, arith}
use Rattle.std.proofs.lemmas.Bool.{and_parts, and_from}
use Rattle.std.specs.List.{list_all}

pub all_push : {A : Type 0} (p : A → Bool) (xs : List A) (x : A) → list_all p xs ≡ true → p x ≡ true → list_all p (xs ++ x ∷ []) ≡ true
all_push p [] x a e = and_from (p x) true e refl
all_push p (y ∷ xs) x a e = let h = and_parts (p y) (list_all p xs) a in and_from (p y) (list_all p (xs ++ x ∷ [])) h.0 (all_push p xs x h.1 e)

pub all_weaker : {A : Type 0} (p q : A → Bool) (xs : List A) → ((x : A) → p x ≡ true → q x ≡ true) → list_all p xs ≡ true → list_all q xs ≡ true
all_weaker p q [] f a = refl
all_weaker p q (x ∷ xs) f a = let h = and_parts (p x) (list_all p xs) a in and_from (q x) (list_all q xs) (f x h.0) (all_weaker p q xs f h.1)

pub all_at : {A : Type 0} (p : A → Bool) (xs : List A) (i : ℕ) (d : A) → i < length xs → list_all p xs ≡ true → p (get_or xs i d) ≡ true
all_at p [] i d h a = absurd (omega arith)
all_at p (x ∷ xs) zero d h a = (and_parts (p x) (list_all p xs) a).0
all_at p (x ∷ xs) (suc i) d h a = all_at p xs i d (omega arith) (and_parts (p x) (list_all p xs) a).1
