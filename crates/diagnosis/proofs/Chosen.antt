-- The sets that the search goes through: every set of the sizes wanted, in order.
use Rattle.std.proofs.Common.{◌≡◌, ℕ, zero, suc, ◌+◌, ◌<◌, ◌≤◌, List, [], ◌∷◌, map, length, sym, refl, ap, subst, inl, inr, ⊎_elim, arith}
use Rattle.std.proofs.lemmas.Bool.{cases_eq}
use Rattle.diagnosis.specs.Sets.{Ascends, IsSet}
use Rattle.diagnosis.specs.Order.{Before, In, InOrder}
use Rattle.diagnosis.specs.FullList.{choose, sizes}
use Rattle.diagnosis.proofs.Members.{in_front, in_back, in_either, in_map, from_map}
use Rattle.diagnosis.proofs.Ordered.{order_append, order_cons}
use Rattle.diagnosis.proofs.Subsets.{ascends_from_lower}

-- ── the sets of k out of the m numbers from a to n ──
from_choose : (a m k n : ℕ) → a + m ≡ suc n → (S : List ℕ) → In S (choose a m k) → Ascends a n S × (length S ≡ k)
from_choose a m zero n e S h = ⊎_elim (λ i. subst (λ (X : List ℕ). Ascends a n X × (length X ≡ 0)) (sym i) (tt, refl)) (λ x. absurd x) h
from_choose a zero (suc k) n e S h = absurd h
from_choose a (suc m) (suc k) n e S h =
    ⊎_elim
    (λ l.
    let (R, i, j) = from_map (λ T. a ∷ T) S (choose (suc a) m k) l in
    let (asc, len) = from_choose (suc a) m k n (omega arith) R j in
    subst (λ (X : List ℕ). Ascends a n X × (length X ≡ suc k)) (sym i) ((omega arith, omega arith, asc), ap suc len))
    (λ r. let (asc, len) = from_choose (suc a) m (suc k) n (omega arith) S r in (ascends_from_lower (suc a) a n S (omega arith) asc, len))
    (in_either S (map (λ T. a ∷ T) (choose (suc a) m k)) (choose (suc a) m (suc k)) h)

in_choose : (a m k n : ℕ) → a + m ≡ suc n → (S : List ℕ) → Ascends a n S → length S ≡ k → In S (choose a m k)
in_choose a m zero n e [] asc len = inl refl
in_choose a m zero n e (x ∷ S) asc len = absurd (omega arith)
in_choose a zero (suc k) n e [] asc len = absurd (omega arith)
in_choose a zero (suc k) n e (x ∷ S) asc len = absurd (omega arith)
in_choose a (suc m) (suc k) n e [] asc len = absurd (omega arith)
in_choose a (suc m) (suc k) n e (x ∷ S) asc len =
    ⊎_elim
    (λ same.
    let asc' : Ascends (suc a) n S = subst (λ (y : ℕ). Ascends (suc y) n S) (sym same) asc.2 in
    subst (λ (y : ℕ). In (y ∷ S) (choose a (suc m) (suc k))) same (in_front (a ∷ S) (map (λ T. a ∷ T) (choose (suc a) m k)) (choose (suc a) m (suc k)) (in_map (λ T. a ∷ T) S (choose (suc a) m k) (in_choose (suc a) m k n (omega arith) S asc' (omega arith)))))
    (λ other. in_back (x ∷ S) (map (λ T. a ∷ T) (choose (suc a) m k)) (choose (suc a) m (suc k)) (in_choose (suc a) m (suc k) n (omega arith) (x ∷ S) (omega arith, asc.1, asc.2) len))
    (cases_eq a x)

-- of sets of one size, one that begins with a comes before one that begins later
before_later : (a n k : ℕ) (R T : List ℕ) → length R ≡ k → Ascends (suc a) n T → length T ≡ suc k → Before (a ∷ R) T
before_later a n k R [] lr asc lt = absurd (omega arith)
before_later a n k R (y ∷ T) lr asc lt = inr (omega arith, inl asc.0)

choose_order : (a m k n : ℕ) → a + m ≡ suc n → InOrder (choose a m k)
choose_order a m zero n e = (λ T h. absurd h, tt)
choose_order a zero (suc k) n e = tt
choose_order a (suc m) (suc k) n e =
    order_append (map (λ T. a ∷ T) (choose (suc a) m k)) (choose (suc a) m (suc k)) (order_cons a (choose (suc a) m k) (choose_order (suc a) m k n (omega arith))) (choose_order (suc a) m (suc k) n (omega arith))
    (λ S T s t.
    let (R, i, j) = from_map (λ T. a ∷ T) S (choose (suc a) m k) s in
    let (asc, len) = from_choose (suc a) m (suc k) n (omega arith) T t in
    subst (λ (X : List ℕ). Before X T) (sym i) (before_later a n k R T (from_choose (suc a) m k n (omega arith) R j).1 asc len))

-- ── by size ──
pub from_sizes : (n k d : ℕ) (S : List ℕ) → In S (sizes n k d) → IsSet n S × (k ≤ length S) × (length S < k + d)
from_sizes n k zero S h = absurd h
from_sizes n k (suc d) S h =
    ⊎_elim
    (λ l. let (asc, len) = from_choose 1 n k n (omega arith) S l in (asc, omega arith, omega arith))
    (λ r. let (asc, low, high) = from_sizes n (suc k) d S r in (asc, omega arith, omega arith))
    (in_either S (choose 1 n k) (sizes n (suc k) d) h)

pub in_sizes : (n k d : ℕ) (S : List ℕ) → IsSet n S → k ≤ length S → length S < k + d → In S (sizes n k d)
in_sizes n k zero S asc low high = absurd (omega arith)
in_sizes n k (suc d) S asc low high =
    ⊎_elim
    (λ same. in_front S (choose 1 n k) (sizes n (suc k) d) (in_choose 1 n k n (omega arith) S asc (sym same)))
    (λ other. in_back S (choose 1 n k) (sizes n (suc k) d) (in_sizes n (suc k) d S asc (omega arith) (omega arith)))
    (cases_eq k (length S))

pub sizes_order : (n k d : ℕ) → InOrder (sizes n k d)
sizes_order n k zero = tt
sizes_order n k (suc d) =
    order_append (choose 1 n k) (sizes n (suc k) d) (choose_order 1 n k n (omega arith)) (sizes_order n (suc k) d)
    (λ S T s t. inl (let l = (from_choose 1 n k n (omega arith) S s).1 in let h = (from_sizes n (suc k) d T t).1 in omega arith))
