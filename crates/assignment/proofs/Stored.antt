-- A clause written behind those of a store.
use Rattle.std.proofs.Common.{◌≡◌, ℕ, ◌+◌, ◌*◌, ◌<◌, ◌≤◌, Bool, true, false, ◌||◌, eqb, ltb, leb, ◌≢◌, List, [], ◌∷◌, length, get_or, set, ℤ, pos, nat_abs, sym, refl, ap, ◌∙◌, ⊎_elim, arith, length-set}
use Rattle.std.proofs.lemmas.List.{get_or-set_same, get_or-set_other, get_or_past}
use Rattle.std.proofs.lemmas.Bool.{and_parts, ltb-true, ne_eqb, cond-false, cases_eq, cases_lt, leb-true}
use Rattle.solver.proofs.Lists.{all_at}
use Rattle.solver.specs.Rows.{Row, holds, named, all_named, some_true}
use Rattle.assignment.specs.Stored.{place_true, triple_true, stored_true, StoredTrue, triple_set, Ranged}

before : (xs : List ℤ) (i : ℕ) (c : List ℤ) (k : ℕ) → k < i → get_or (triple_set xs i c) k (pos 0) ≡ get_or xs k (pos 0)
before xs i c k h =
    let a : k ≢ i = omega arith in
    let b : k ≢ i + 1 = omega arith in
    let e : k ≢ i + 2 = omega arith in
    rw (get_or-set_other, get_or-set_other, get_or-set_other)

module _ (xs : List ℤ) (i : ℕ) (c : List ℤ) (room : i + 3 ≤ length xs) where
  at_0 : get_or (triple_set xs i c) i (pos 0) ≡ get_or c 0 (pos 0)
  at_0 =
      let a : i ≢ i + 1 = omega arith in
      let b : i ≢ i + 2 = omega arith in
      let l : i < length xs = omega arith in
      rw (get_or-set_other, get_or-set_other, get_or-set_same)

  at_1 : get_or (triple_set xs i c) (i + 1) (pos 0) ≡ get_or c 1 (pos 0)
  at_1 =
      let b : i + 1 ≢ i + 2 = omega arith in
      let l : i + 1 < length (set xs i (get_or c 0 (pos 0))) = simp length-set (omega arith) in
      rw (get_or-set_other, get_or-set_same)

  at_2 : get_or (triple_set xs i c) (i + 2) (pos 0) ≡ get_or c 2 (pos 0)
  at_2 =
      let l : i + 2 < length (set (set xs i (get_or c 0 (pos 0))) (i + 1) (get_or c 1 (pos 0))) = simp length-set (omega arith) in
      rw get_or-set_same

place_named : (vars : ℕ) (row : Row) (x : ℤ) → named vars x ≡ true → place_true row x ≡ holds row x
place_named vars row x h =
    let l = ltb-true 0 (nat_abs x) (and_parts (ltb 0 (nat_abs x)) (leb (nat_abs x) vars) h).0 in
    cond-false (eqb (nat_abs x) 0) false (holds row x) (ne_eqb (nat_abs x) 0 (λ e. omega (arith, l, e)))

grouped₃ : (a b c : Bool) → ((a || b) || c) ≡ (a || (b || (c || false)))
grouped₃ true b c = refl
grouped₃ false true c = refl
grouped₃ false false true = refl
grouped₃ false false false = refl

grouped₂ : (a b : Bool) → ((a || b) || false) ≡ (a || (b || false))
grouped₂ true b = refl
grouped₂ false b = refl

grouped₁ : (a : Bool) → ((a || false) || false) ≡ (a || false)
grouped₁ true = refl
grouped₁ false = refl

-- up to three literals, in places
triple_some : (vars : ℕ) (row : Row) (c : List ℤ) → length c ≤ 3 → all_named vars c ≡ true → triple_true row (get_or c 0 (pos 0)) (get_or c 1 (pos 0)) (get_or c 2 (pos 0)) ≡ some_true row c
triple_some vars row [] l h = refl
triple_some vars row (x ∷ []) l h = rw (place_named vars row x (and_parts (named vars x) true h).0) (grouped₁ (holds row x))
triple_some vars row (x ∷ (y ∷ [])) l h =
    let p = and_parts (named vars x) _ h in
    let q = and_parts (named vars y) true p.1 in
    rw (place_named vars row x p.0, place_named vars row y q.0) (grouped₂ (holds row x) (holds row y))
triple_some vars row (x ∷ (y ∷ (z ∷ []))) l h =
    let p = and_parts (named vars x) _ h in
    let q = and_parts (named vars y) _ p.1 in
    let r = and_parts (named vars z) true q.1 in
    rw (place_named vars row x p.0, place_named vars row y q.0, place_named vars row z r.0) (grouped₃ (holds row x) (holds row y) (holds row z))
triple_some vars row (x ∷ (y ∷ (z ∷ (u ∷ us)))) l h = absurd (omega arith)

module _ (vars : ℕ) (row : Row) (xs : List ℤ) (count : ℕ) (c : List ℤ) (room : 3 * count + 3 ≤ length xs) (short : length c ≤ 3) (known : all_named vars c ≡ true) where
  old : (k : ℕ) → k < count → stored_true row (triple_set xs (3 * count) c) k ≡ stored_true row xs k
  old k h =
      let a = before xs (3 * count) c (3 * k) (omega arith) in
      let b = before xs (3 * count) c (3 * k + 1) (omega arith) in
      let e = before xs (3 * count) c (3 * k + 2) (omega arith) in
      rw (a, b, e)

  new : stored_true row (triple_set xs (3 * count) c) count ≡ some_true row c
  new = rw (at_0 xs (3 * count) c room, at_1 xs (3 * count) c room, at_2 xs (3 * count) c room) (triple_some vars row c short known)

  pub only : StoredTrue row (triple_set xs (3 * count) c) (count + 1) → StoredTrue row xs count × (some_true row c ≡ true)
  only h = ((λ k l. sym (old k l) ∙ h k (omega arith)), sym new ∙ h count (omega arith))

  pub each : StoredTrue row xs count → some_true row c ≡ true → StoredTrue row (triple_set xs (3 * count) c) (count + 1)
  each h t k l =
      ⊎_elim (λ e. ap (stored_true row (triple_set xs (3 * count) c)) e ∙ new ∙ t) (λ n. let less : k < count = omega (arith, n) in old k less ∙ h k less) (cases_eq k count)

pub length_triple : (xs : List ℤ) (i : ℕ) (c : List ℤ) → length (triple_set xs i c) ≡ length xs
length_triple xs i c = simp length-set

place_within : (vars : ℕ) (c : List ℤ) (i : ℕ) → all_named vars c ≡ true → nat_abs (get_or c i (pos 0)) ≤ vars
place_within vars c i h =
    ⊎_elim
    (λ (l : i < length c). leb-true (nat_abs (get_or c i (pos 0))) vars (and_parts (ltb 0 (nat_abs (get_or c i (pos 0)))) (leb (nat_abs (get_or c i (pos 0))) vars) (all_at (named vars) c i (pos 0) l h)).1)
    (λ (l : length c ≤ i). rw (get_or_past c i (pos 0) l) (omega arith))
    (cases_lt i (length c))

-- one clause more keeps each place in range
pub ranged_more : (vars : ℕ) (xs : List ℤ) (count : ℕ) (c : List ℤ) → 3 * count + 3 ≤ length xs → all_named vars c ≡ true → Ranged xs count vars → Ranged (triple_set xs (3 * count) c) (count + 1) vars
ranged_more vars xs count c room known old k l =
    ⊎_elim
    (λ (a : k < 3 * count). rw (before xs (3 * count) c k a) (old k a))
    (λ (a : 3 * count ≤ k).
    ⊎_elim
    (λ (e : k ≡ 3 * count). rw (e, at_0 xs (3 * count) c room) (place_within vars c 0 known))
    (λ (n-0 : k ≡ 3 * count → ⊥). ⊎_elim
    (λ (e : k ≡ 3 * count + 1). rw (e, at_1 xs (3 * count) c room) (place_within vars c 1 known))
    (λ (n-1 : k ≡ 3 * count + 1 → ⊥).
    let e : k ≡ 3 * count + 2 = omega (arith, n-0, n-1) in
    rw (e, at_2 xs (3 * count) c room) (place_within vars c 2 known))
    (cases_eq k (3 * count + 1)))
    (cases_eq k (3 * count)))
    (cases_lt k (3 * count))
