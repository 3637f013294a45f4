-- Backtracking over a trail whose closed entries follow from those before them.
use Rattle.std.proofs.Common.{◌≡◌, ℕ, zero, suc, ◌+◌, ◌-◌, ◌<◌, ◌≤◌, Bool, true, false, not, ◌≢◌, List, length, get_or, set, ℤ, pos, negsuc, neg_ℤ, nat_abs, sym, refl, ap, ◌∙◌, ⊎_elim, not-suc-le-zero, arith}
use lib.Signed.{lt_z}
use Rattle.std.proofs.lemmas.List.{get_or-set_same, get_or-set_other}
use Rattle.std.proofs.lemmas.Bool.{cases_eq, cases_Bool}
use Rattle.solver.specs.Rows.{Row, holds}
use Rattle.assignment.specs.Trail.{is_open, Before, Blocked, Closed, NoOpen}

-- what is written at n is not before n
before_old : (ts : List ℤ) (n : ℕ) (x : ℤ) (row : Row) (k : ℕ) → k ≤ n → Before (set ts n x) k row → Before ts k row
before_old ts n x row k l h j i =
    let ne : j ≢ n = omega arith in
    ap (holds row) (sym (get_or-set_other ts n j x (pos 0) ne)) ∙ h j i

before_more : (ts : List ℤ) (n : ℕ) (row : Row) → Before ts n row → holds row (get_or ts n (pos 0)) ≡ true → Before ts (n + 1) row
before_more ts n row h t j i = ⊎_elim (λ (e : j ≡ n). ap (λ m. holds row (get_or ts m (pos 0))) e ∙ t) (λ (ne : j ≡ n → ⊥). h j (omega (arith, ne))) (cases_eq j n)

negated : (row : Row) (x : ℤ) → 1 ≤ nat_abs x → holds row x ≡ false → holds row (neg_ℤ x) ≡ true
negated row (pos zero) l h = absurd (not-suc-le-zero l)
negated row (pos (suc n)) l h = ap not h
negated row (negsuc n) l h = was (row (suc n)) h
  where
    was : (b : Bool) → not b ≡ false → b ≡ true
    was true h = refl
    was false h = sym h

module _ (P : Row → Type 0) where
  -- one entry more, which follows unless it is open
  pub closed_assign : (ts os : List ℤ) (len : ℕ) (x o : ℤ) → len < length ts → len < length os → (lt_z (pos 0) o ≡ false → (row : Row) → P row → Before ts len row → holds row x ≡ true) → Closed P ts os len → Closed P (set ts len x) (set os len o) (len + 1)
  closed_assign ts os len x o lt lo new old k l no_open row p b =
      ⊎_elim
      (λ (e : k ≡ len).
      let no-open' : is_open (set os len o) len ≡ false = rw e at no_open in
      let b' : Before (set ts len x) len row = rw e at b in
      ap (λ m. holds row (get_or (set ts len x) m (pos 0))) e ∙ ap (holds row) (get_or-set_same ts len x (pos 0) lt) ∙ new (sym (ap (lt_z (pos 0)) (get_or-set_same os len o (pos 0) lo)) ∙ no-open') row p (before_old ts len x row len (omega arith) b'))
      (λ (ne : k ≡ len → ⊥).
      ap (holds row) (get_or-set_other ts len k x (pos 0) ne) ∙ old k (omega (arith, ne)) (sym (ap (lt_z (pos 0)) (get_or-set_other os len k o (pos 0) ne)) ∙ no_open) row p (before_old ts len x row k (omega arith) b))
      (cases_eq k len)

  -- fewer entries
  pub closed_fewer : (ts os : List ℤ) (len p : ℕ) → p ≤ len → Closed P ts os len → Closed P ts os p
  closed_fewer ts os len p l h k j = h k (omega arith)

  blocked_down : (ts os : List ℤ) (p : ℕ) → (len : ℕ) → p + 1 ≤ len → Closed P ts os len → is_open os p ≡ false → Blocked P ts (p + 1) → Blocked P ts p
  blocked_down ts os p len l c no_open h row w b = h row w (before_more ts p row b (c p (omega arith) no_open row w b))

  -- down over d closed entries
  pub walked : (ts os : List ℤ) (p d : ℕ) → Closed P ts os (p + d) → NoOpen os p (p + d) → Blocked P ts (p + d) → Blocked P ts p
  walked ts os p zero c s h = let e : p + 0 ≡ p = omega arith in rw e at h
  walked ts os p (suc d) c s h =
      let e : p + suc d ≡ (p + d) + 1 = omega arith in
      let h' : Blocked P ts ((p + d) + 1) = rw e at h in
      walked ts os p d (closed_fewer ts os (p + suc d) (p + d) (omega arith) c) (λ k a b. s k a (omega arith)) (blocked_down ts os (p + d) (p + suc d) (omega arith) c (s (p + d) (omega arith) (omega arith)) h')

  pub walked_to : (ts os : List ℤ) (p len : ℕ) → p ≤ len → Closed P ts os len → NoOpen os p len → Blocked P ts len → Blocked P ts p
  walked_to ts os p len l c s h =
      let e : len ≡ p + (len - p) = omega arith in
      walked ts os p (len - p) (rw e at c) (rw e at s) (rw e at h)

  -- the last entry's negation follows
  pub flipped : (ts : List ℤ) (p : ℕ) → 1 ≤ nat_abs (get_or ts p (pos 0)) → Blocked P ts (p + 1) → (row : Row) → P row → Before ts p row → holds row (neg_ℤ (get_or ts p (pos 0))) ≡ true
  flipped ts p l h row w b =
      ⊎_elim
      (λ (t : holds row (get_or ts p (pos 0)) ≡ true). absurd (h row w (before_more ts p row b t)))
      (λ (f : holds row (get_or ts p (pos 0)) ≡ false). negated row (get_or ts p (pos 0)) l f)
      (cases_Bool (holds row (get_or ts p (pos 0))))
