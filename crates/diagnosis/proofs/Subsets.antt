-- The subsets of a set are those that the search tries.
use Rattle.std.proofs.Common.{◌≡◌, ℕ, suc, ◌<◌, ◌≤◌, true, eqb, ◌⊎◌, List, [], ◌∷◌, ◌++◌, map, length, sym, refl, ap, ◌∙◌, subst, inl, inr, ⊎_elim, arith}
use mathlib.Core.Bool.{false≢true}
use Rattle.std.proofs.lemmas.Bool.{eqb-true, eq-eqb, cases_eq, or_cases, or_left, or_right}
use Rattle.diagnosis.specs.Sets.{member, Ascends, IsSet, Within, Proper}
use Rattle.diagnosis.specs.Order.{In}
use Rattle.diagnosis.specs.FullList.{subsets, proper_subsets}
use Rattle.diagnosis.proofs.Members.{in_front, in_back, in_either, in_map, from_map}

pub ascends_from_lower : (a b n : ℕ) (S : List ℕ) → b ≤ a → Ascends a n S → Ascends b n S
ascends_from_lower a b n [] le h = tt
ascends_from_lower a b n (x ∷ S) le h = (omega arith, h.1, h.2)

pub member_range : (a n : ℕ) (S : List ℕ) → Ascends a n S → (g : ℕ) → member S g ≡ true → (a ≤ g) × (g ≤ n)
member_range a n [] asc g m = absurd (false≢true m)
member_range a n (x ∷ S) asc g m = ⊎_elim (λ q. let e : g ≡ x = eqb-true g x q in (omega arith, omega arith)) (λ r. let (l, u) = member_range (suc x) n S asc.2 g r in (omega arith, u)) (or_cases (eqb g x) _ m)

pub no_member_below : (a n : ℕ) (S : List ℕ) → Ascends a n S → (g : ℕ) → g < a → member S g ≡ true → ⊥
no_member_below a n S asc g lt m = let (l, u) = member_range a n S asc g m in omega arith

pub member_first : (x : ℕ) (S : List ℕ) → member (x ∷ S) x ≡ true
member_first x S = or_left _ _ (eq-eqb x x refl)

-- ── what the search tries is a subset ──
from_subsets : (x : ℕ) (S T : List ℕ) (Ps : List (List ℕ)) → In T (map (λ R. x ∷ R) Ps ++ subsets S) → ((R : List ℕ) × (T ≡ x ∷ R) × In R Ps) ⊎ In T (subsets S)
from_subsets x S T Ps h = ⊎_elim (λ l. inl (from_map (λ R. x ∷ R) T Ps l)) (λ r. inr r) (in_either T (map (λ R. x ∷ R) Ps) (subsets S) h)

with_first : (x : ℕ) (S R : List ℕ) (Ps : List (List ℕ)) → In R Ps → In (x ∷ R) (map (λ R. x ∷ R) Ps ++ subsets S)
with_first x S R Ps h = in_front (x ∷ R) (map (λ R. x ∷ R) Ps) (subsets S) (in_map (λ R. x ∷ R) R Ps h)

without_first : (x : ℕ) (S T : List ℕ) (Ps : List (List ℕ)) → In T (subsets S) → In T (map (λ R. x ∷ R) Ps ++ subsets S)
without_first x S T Ps h = in_back T (map (λ R. x ∷ R) Ps) (subsets S) h

pub subset_ascends : (a n : ℕ) (S T : List ℕ) → In T (subsets S) → Ascends a n S → Ascends a n T
subset_ascends a n [] T h asc = ⊎_elim (λ e. subst (λ (X : List ℕ). Ascends a n X) (sym e) tt) (λ x. absurd x) h
subset_ascends a n (x ∷ S) T h asc =
    ⊎_elim
    (λ l. let (R, e, i) = l in subst (λ (X : List ℕ). Ascends a n X) (sym e) (asc.0, asc.1, subset_ascends (suc x) n S R i asc.2))
    (λ r. ascends_from_lower (suc x) a n T (omega arith) (subset_ascends (suc x) n S T r asc.2))
    (from_subsets x S T (subsets S) h)

pub subset_within : (S T : List ℕ) → In T (subsets S) → Within T S
subset_within [] T h = ⊎_elim (λ e. subst (λ (X : List ℕ). Within X []) (sym e) (λ g m. m)) (λ x. absurd x) h
subset_within (x ∷ S) T h =
    ⊎_elim
    (λ l. let (R, e, i) = l in subst (λ (X : List ℕ). Within X (x ∷ S)) (sym e) (λ g m. ⊎_elim (λ t. or_left _ _ t) (λ r. or_right (eqb g x) _ (subset_within S R i g r)) (or_cases (eqb g x) _ m)))
    (λ r. λ g m. or_right (eqb g x) _ (subset_within S T r g m))
    (from_subsets x S T (subsets S) h)

subset_length : (S T : List ℕ) → In T (subsets S) → length T ≤ length S
subset_length [] T h = ⊎_elim (λ e. let l = ap length e in omega arith) (λ x. absurd x) h
subset_length (x ∷ S) T h =
    ⊎_elim
    (λ l. let (R, e, i) = l in let k = subset_length S R i in let m = ap length e in omega arith)
    (λ r. let k = subset_length S T r in omega arith)
    (from_subsets x S T (subsets S) h)

pub proper_length : (S T : List ℕ) → In T (proper_subsets S) → length T < length S
proper_length [] T h = absurd h
proper_length (x ∷ S) T h =
    ⊎_elim
    (λ l. let (R, e, i) = l in let k = proper_length S R i in let m = ap length e in omega arith)
    (λ r. let k = subset_length S T r in omega arith)
    (from_subsets x S T (proper_subsets S) h)

proper_subset : (S T : List ℕ) → In T (proper_subsets S) → In T (subsets S)
proper_subset [] T h = absurd h
proper_subset (x ∷ S) T h =
    ⊎_elim
    (λ l. let (R, e, i) = l in subst (λ (X : List ℕ). In X (subsets (x ∷ S))) (sym e) (with_first x S R (subsets S) (proper_subset S R i)))
    (λ r. without_first x S T (subsets S) r)
    (from_subsets x S T (proper_subsets S) h)

whole_or_proper : (S T : List ℕ) → In T (subsets S) → (T ≡ S) ⊎ In T (proper_subsets S)
whole_or_proper [] T h = h
whole_or_proper (x ∷ S) T h =
    ⊎_elim
    (λ l.
    let (R, e, i) = l in
    ⊎_elim (λ s. inl (e ∙ ap (λ p. x ∷ p) s)) (λ p. inr (subst (λ (X : List ℕ). In X (proper_subsets (x ∷ S))) (sym e) (with_first x S R (proper_subsets S) p))) (whole_or_proper S R i))
    (λ r. inr (without_first x S T (proper_subsets S) r))
    (from_subsets x S T (subsets S) h)

-- ── and each subset is tried ──
empty_subset : (S : List ℕ) → In [] (subsets S)
empty_subset [] = inl refl
empty_subset (x ∷ S) = without_first x S [] (subsets S) (empty_subset S)

-- a set that begins above y, within y and others, is within the others
within_rest : (y n : ℕ) (S T : List ℕ) → Ascends (suc y) n T → Within T (y ∷ S) → Within T S
within_rest y n S T asc w g m = ⊎_elim (λ q. let e : g ≡ y = eqb-true g y q in absurd (no_member_below (suc y) n T asc g (omega arith) m)) (λ r. r) (or_cases (eqb g y) _ (w g m))

within_subset : (a n : ℕ) (S T : List ℕ) → Ascends a n S → Ascends a n T → Within T S → In T (subsets S)
within_subset a n [] [] s t w = inl refl
within_subset a n [] (x ∷ T) s t w = absurd (false≢true (w x (member_first x T)))
within_subset a n (y ∷ S) [] s t w = empty_subset (y ∷ S)
within_subset a n (y ∷ S) (x ∷ T) s t w =
    ⊎_elim
    (λ same.
    let t' : Ascends (suc y) n T = subst (λ (z : ℕ). Ascends (suc z) n T) same t.2 in
    subst (λ (z : ℕ). In (z ∷ T) (subsets (y ∷ S))) (sym same) (with_first y S T (subsets S) (within_subset (suc y) n S T s.2 t' (within_rest y n S T t' (λ g m. w g (or_right (eqb g x) _ m))))))
    (λ other.
    let x-in : member S x ≡ true = ⊎_elim (λ q. absurd (other (eqb-true x y q))) (λ r. r) (or_cases (eqb x y) _ (w x (member_first x T))) in
    let above : y < x = (member_range (suc y) n S s.2 x x-in).0 in
    let t' : Ascends (suc y) n (x ∷ T) = (above, t.1, t.2) in
    without_first y S (x ∷ T) (subsets S) (within_subset (suc y) n S (x ∷ T) s.2 t' (within_rest y n S (x ∷ T) t' w)))
    (cases_eq x y)

-- ── a proper subset is one that is tried ──
pub proper_tried : (n : ℕ) (S T : List ℕ) → IsSet n S → IsSet n T → Proper T S → In T (proper_subsets S)
proper_tried n S T s t p = ⊎_elim (λ e. absurd (p.1 e)) (λ i. i) (whole_or_proper S T (within_subset 1 n S T s t p.0))

pub tried_proper : (n : ℕ) (S T : List ℕ) → IsSet n S → In T (proper_subsets S) → IsSet n T × Proper T S
tried_proper n S T s i =
    let j = proper_subset S T i in
    (subset_ascends 1 n S T j s, (subset_within S T j, λ e. let l = proper_length S T i in let m = ap length e in omega arith))

pub whole_or_fewer : (n : ℕ) (S T : List ℕ) → IsSet n S → IsSet n T → Within T S → (T ≡ S) ⊎ (length T < length S)
whole_or_fewer n S T s t w = ⊎_elim (λ e. inl e) (λ p. inr (proper_length S T p)) (whole_or_proper S T (within_subset 1 n S T s t w))

-- sets that are within each other are one
pub within_both : (n : ℕ) (S T : List ℕ) → IsSet n S → IsSet n T → Within T S → Within S T → T ≡ S
within_both n S T s t w v = ⊎_elim (λ e. e) (λ lt. ⊎_elim (λ e. sym e) (λ gt. absurd (omega arith)) (whole_or_fewer n T S t s v)) (whole_or_fewer n S T s t w)
