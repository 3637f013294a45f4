-- The order of sets is strict, so that a list in order is fixed by what stands in it.
use Rattle.std.proofs.Common.{◌≡◌, ℕ, suc, Bool, true, false, cond, List, [], ◌∷◌, ◌++◌, map, filter, sym, refl, ap, ◌∙◌, subst, inl, inr, ⊎_elim, arith}
use Rattle.diagnosis.specs.Order.{Lower, Before, In, InOrder}
use Rattle.diagnosis.proofs.Members.{in_back, in_either, from_map, from_kept}

lower_asymmetric : (S T : List ℕ) → Lower S T → Lower T S → ⊥
lower_asymmetric [] T h k = h
lower_asymmetric (x ∷ S) [] h k = h
lower_asymmetric (x ∷ S) (y ∷ T) h k =
    ⊎_elim
    (λ lt. ⊎_elim (λ gt. omega arith) (λ r. let e = r.0 in omega arith) k)
    (λ r. ⊎_elim (λ gt. let e = r.0 in omega arith) (λ q. lower_asymmetric S T r.1 q.1) k)
    h

pub before_asymmetric : (S T : List ℕ) → Before S T → Before T S → ⊥
before_asymmetric S T h k =
    ⊎_elim
    (λ lt. ⊎_elim (λ gt. omega arith) (λ r. let e = r.0 in omega arith) k)
    (λ r. ⊎_elim (λ gt. let e = r.0 in omega arith) (λ q. lower_asymmetric S T r.1 q.1) k)
    h

pub before_itself : (S : List ℕ) → Before S S → ⊥
before_itself S h = before_asymmetric S S h h

-- one gate more in front of both
before_cons : (x : ℕ) (S T : List ℕ) → Before S T → Before (x ∷ S) (x ∷ T)
before_cons x S T h = ⊎_elim (λ lt. inl (omega arith)) (λ r. inr (ap suc r.0, inr (refl, r.1))) h

-- ── lists in order ──
pub order_append : (K L : List (List ℕ)) → InOrder K → InOrder L → ((S T : List ℕ) → In S K → In T L → Before S T) → InOrder (K ++ L)
order_append [] L a b f = b
order_append (S ∷ K) L a b f = (λ T h. ⊎_elim (λ p. a.0 T p) (λ q. f S T (inl refl) q) (in_either T K L h), order_append K L a.1 b (λ S T p q. f S T (inr p) q))

pub order_back : (K L : List (List ℕ)) → InOrder (K ++ L) → InOrder L
order_back [] L h = h
order_back (S ∷ K) L h = order_back K L h.1

-- what stands in the front comes before what stands in the back
pub order_across : (K L : List (List ℕ)) → InOrder (K ++ L) → (S T : List ℕ) → In S K → In T L → Before S T
order_across [] L h S T a b = absurd a
order_across (R ∷ K) L h S T a b = ⊎_elim (λ e. subst (λ (X : List ℕ). Before X T) (sym e) (h.0 T (in_back T K L b))) (λ r. order_across K L h.1 S T r b) a

pub order_cons : (x : ℕ) (L : List (List ℕ)) → InOrder L → InOrder (map (λ T. x ∷ T) L)
order_cons x [] h = tt
order_cons x (S ∷ L) h = (λ Y i. let (T, e, j) = from_map (λ T. x ∷ T) Y L i in subst (λ (Y : List ℕ). Before (x ∷ S) Y) (sym e) (before_cons x S T (h.0 T j)), order_cons x L h.1)

pub order_kept : (p : List ℕ → Bool) (L : List (List ℕ)) → InOrder L → InOrder (filter p L)
order_kept p [] h = tt
order_kept p (S ∷ L) h = kept (p S) (order_kept p L h.1)
  where
    kept : (b : Bool) → InOrder (filter p L) → InOrder (cond b (S ∷ filter p L) (filter p L))
    kept true o = (λ T i. h.0 T (from_kept p L T i).0, o)
    kept false o = o

-- ── two lists in order in which the same sets stand are one list ──
heads_equal : (S T : List ℕ) (K L : List (List ℕ)) → InOrder (S ∷ K) → InOrder (T ∷ L) → In S (T ∷ L) → In T (S ∷ K) → S ≡ T
heads_equal S T K L k l s t = ⊎_elim (λ e. e) (λ i. ⊎_elim (λ e. sym e) (λ j. absurd (before_asymmetric S T (k.0 T j) (l.0 S i))) t) s

tails_agree : (S T : List ℕ) (K L : List (List ℕ)) → InOrder (S ∷ K) → S ≡ T → ((R : List ℕ) → In R (S ∷ K) → In R (T ∷ L)) → (R : List ℕ) → In R K → In R L
tails_agree S T K L k e f R i = ⊎_elim (λ q. absurd (before_itself R (subst (λ (X : List ℕ). Before X R) (e ∙ sym q) (k.0 R i)))) (λ j. j) (f R (inr i))

pub order_unique : (K L : List (List ℕ)) → InOrder K → InOrder L → ((S : List ℕ) → In S K → In S L) → ((S : List ℕ) → In S L → In S K) → K ≡ L
order_unique [] [] k l f g = refl
order_unique [] (T ∷ L) k l f g = absurd (g T (inl refl))
order_unique (S ∷ K) [] k l f g = absurd (f S (inl refl))
order_unique (S ∷ K) (T ∷ L) k l f g =
    let e : S ≡ T = heads_equal S T K L k l (f S (inl refl)) (g T (inl refl)) in
    let rest : K ≡ L = order_unique K L k.1 l.1 (tails_agree S T K L k e f) (tails_agree T S L K l (sym e) g) in
    λ i. e i ∷ rest i
