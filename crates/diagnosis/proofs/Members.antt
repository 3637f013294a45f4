-- What stands in a list that was joined, mapped or filtered, and what a test of all or of any says of it.
use Rattle.std.proofs.Common.{◌≡◌, Bool, true, false, cond, ◌⊎◌, List, [], ◌∷◌, ◌++◌, map, filter, sym, refl, ap, ◌∙◌, subst, inl, inr, ⊎_elim}
use mathlib.Core.Bool.{false≢true}
use Rattle.std.proofs.lemmas.Bool.{cases_Bool, cond-true, cond-false, or_cases, or_left, or_right, and_parts, and_from}
use Rattle.std.specs.List.{list_all, list_any}
use Rattle.diagnosis.specs.Order.{In}

-- ── joined ──
pub in_front : {A : Type 0} (x : A) (xs ys : List A) → In x xs → In x (xs ++ ys)
in_front x [] ys h = absurd h
in_front x (y ∷ xs) ys h = ⊎_elim (λ e. inl e) (λ r. inr (in_front x xs ys r)) h

pub in_back : {A : Type 0} (x : A) (xs ys : List A) → In x ys → In x (xs ++ ys)
in_back x [] ys h = h
in_back x (y ∷ xs) ys h = inr (in_back x xs ys h)

pub in_either : {A : Type 0} (x : A) (xs ys : List A) → In x (xs ++ ys) → In x xs ⊎ In x ys
in_either x [] ys h = inr h
in_either x (y ∷ xs) ys h = ⊎_elim (λ e. inl (inl e)) (λ r. ⊎_elim (λ a. inl (inr a)) (λ b. inr b) (in_either x xs ys r)) h

-- ── mapped ──
pub in_map : {A B : Type 0} (f : A → B) (x : A) (xs : List A) → In x xs → In (f x) (map f xs)
in_map f x [] h = h
in_map f x (y ∷ xs) h = ⊎_elim (λ e. inl (ap f e)) (λ r. inr (in_map f x xs r)) h

pub from_map : {A B : Type 0} (f : A → B) (z : B) (xs : List A) → In z (map f xs) → (x : A) × (z ≡ f x) × In x xs
from_map f z [] h = absurd h
from_map f z (x ∷ xs) h = ⊎_elim (λ e. (x, e, inl refl)) (λ r. let (y, e, i) = from_map f z xs r in (y, e, inr i)) h

-- ── filtered ──
pub from_kept : {A : Type 0} (p : A → Bool) (xs : List A) (x : A) → In x (filter p xs) → In x xs × (p x ≡ true)
from_kept p [] x h = absurd h
from_kept {A} p (y ∷ xs) x h =
    ⊎_elim
    (λ t.
    ⊎_elim (λ e. (inl e, ap p e ∙ t)) (λ r. let (a, b) = from_kept p xs x r in (inr a, b))
    (subst (λ (l : List A). In x l) (cond-true (p y) (y ∷ filter p xs) (filter p xs) t) h))
    (λ f. let (a, b) = from_kept p xs x (subst (λ (l : List A). In x l) (cond-false (p y) (y ∷ filter p xs) (filter p xs) f) h) in (inr a, b))
    (cases_Bool (p y))

pub in_kept : {A : Type 0} (p : A → Bool) (xs : List A) (x : A) → In x xs → p x ≡ true → In x (filter p xs)
in_kept p [] x h e = h
in_kept {A} p (y ∷ xs) x h e =
    ⊎_elim
    (λ i. subst (λ (l : List A). In x l) (sym (cond-true (p y) (y ∷ filter p xs) (filter p xs) (ap p (sym i) ∙ e))) (inl i))
    (λ r. later r (in_kept p xs x r e) (p y))
    h
  where
    later : In x xs → In x (filter p xs) → (b : Bool) → In x (cond b (y ∷ filter p xs) (filter p xs))
    later r k true = inr k
    later r k false = k

-- ── all and any ──
pub all_at : {A : Type 0} (p : A → Bool) (xs : List A) (x : A) → list_all p xs ≡ true → In x xs → p x ≡ true
all_at p [] x e h = absurd h
all_at p (y ∷ xs) x e h = ⊎_elim (λ i. ap p i ∙ (and_parts _ _ e).0) (λ r. all_at p xs x (and_parts (p y) _ e).1 r) h

pub all_from : {A : Type 0} (p : A → Bool) (xs : List A) → ((x : A) → In x xs → p x ≡ true) → list_all p xs ≡ true
all_from p [] f = refl
all_from p (y ∷ xs) f = and_from _ _ (f y (inl refl)) (all_from p xs (λ x h. f x (inr h)))

pub any_at : {A : Type 0} (p : A → Bool) (xs : List A) → list_any p xs ≡ true → (x : A) × In x xs × (p x ≡ true)
any_at p [] e = absurd (false≢true e)
any_at p (x ∷ xs) e = ⊎_elim (λ h. (x, inl refl, h)) (λ h. let (y, i, f) = any_at p xs h in (y, inr i, f)) (or_cases (p x) _ e)

pub any_from : {A : Type 0} (p : A → Bool) (xs : List A) (x : A) → In x xs → p x ≡ true → list_any p xs ≡ true
any_from p [] x h e = absurd h
any_from p (y ∷ xs) x h e = ⊎_elim (λ i. or_left _ _ (ap p (sym i) ∙ e)) (λ r. or_right (p y) _ (any_from p xs x r e)) h
