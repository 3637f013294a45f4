-- Values that are recorded on a trail: one entry more, one entry less.
use Rattle.std.proofs.Common.{◌≡◌, ℕ, zero, suc, ◌+◌, ◌-◌, ◌<◌, ◌≤◌, true, false, cond, eqb, ◌≢◌, List, [], ◌∷◌, length, get_or, set, ℤ, pos, negsuc, nat_abs, sym, refl, ap, ◌∙◌, subst, ⊎_elim, not-suc-le-zero, arith, length-set}
use lib.Signed.{lt_z}
use Rattle.std.proofs.lemmas.List.{get_or-set_same, get_or-set_other, get_or_past}
use Rattle.std.proofs.lemmas.Bool.{cases_eq, cases_lt, cond-false, ne_eqb, not-true, false≢true, ltb-true}
use Rattle.std.proofs.lemmas.List.Sums.{sum_by-set, sum_by-cons}
use Rattle.solver.specs.Rows.{Row, holds}
use Rattle.assignment.specs.Assignment.{val, Extends, Free}
use Rattle.assignment.specs.Trail.{unset_count, Recorded, Before}

abbrev unset_bit : ℤ → ℕ
unset_bit x = cond (eqb (nat_abs x) 0) 1 0

-- a literal that is not 0 counts as set
set_digit : (x : ℤ) → 1 ≤ nat_abs x → unset_bit x ≡ 0
set_digit x l = cond-false (eqb (nat_abs x) 0) 1 0 (ne_eqb (nat_abs x) 0 (λ e. omega (arith, e)))

unset_count_fill : (vs : List ℤ) (i : ℕ) (x : ℤ) → i < length vs → get_or vs i (pos 0) ≡ pos 0 → 1 ≤ nat_abs x → unset_count (set vs i x) + 1 ≡ unset_count vs
unset_count_fill vs i x l e n =
    let all = sum_by-set unset_bit vs i x (pos 0) l in
    let was : unset_bit (get_or vs i (pos 0)) ≡ 1 = ap unset_bit e in
    let is = set_digit x n in
    omega (arith, all, was, is)

unset_count_free : (vs : List ℤ) (i : ℕ) → i < length vs → 1 ≤ nat_abs (get_or vs i (pos 0)) → unset_count (set vs i (pos 0)) ≡ unset_count vs + 1
unset_count_free vs i l n =
    let all = sum_by-set unset_bit vs i (pos 0) (pos 0) l in
    let was = set_digit (get_or vs i (pos 0)) n in
    omega (arith, all, was)

pub unset_count_all : (vs : List ℤ) → ((k : ℕ) → k < length vs → get_or vs k (pos 0) ≡ pos 0) → unset_count vs ≡ length vs
unset_count_all [] h = refl
unset_count_all (v ∷ vs) h =
    let a = unset_count_all vs (λ k l. h (suc k) (omega arith)) in
    let b : unset_bit v ≡ 1 = ap unset_bit (h 0 (omega arith)) in
    let e = sum_by-cons unset_bit v vs in
    omega (arith, a, b, e)

pub recorded_none : (vs ts : List ℤ) → ((k : ℕ) → k < length vs → get_or vs k (pos 0) ≡ pos 0) → Recorded vs ts 0
recorded_none vs ts h = record {
  on = λ v l n. absurd (n (⊎_elim (λ i. h (v - 1) i) (λ i. get_or_past vs (v - 1) (pos 0) i) (cases_lt (v - 1) (length vs))));
  some = λ j l. absurd (not-suc-le-zero l);
  within = λ j l. absurd (not-suc-le-zero l);
  there = λ j l. absurd (not-suc-le-zero l);
  apart = λ i j a l. absurd (not-suc-le-zero l);
  count = let e = unset_count_all vs h in omega arith;
}

-- a variable that is not set is not on the trail
fresh : (vs ts : List ℤ) (len : ℕ) (x : ℤ) → Recorded vs ts len → val vs (nat_abs x) ≡ pos 0 → (j : ℕ) → j < len → nat_abs (get_or ts j (pos 0)) ≡ nat_abs x → ⊥
fresh vs ts len x k u j l e =
    let a : pos 0 ≡ get_or ts j (pos 0) = sym u ∙ sym (ap (val vs) e) ∙ k.there j l in
    let b : 0 ≡ nat_abs (get_or ts j (pos 0)) = ap nat_abs a in
    let s = k.some j l in
    omega arith

-- there is room for a literal that is not set
pub recorded_room : (vs ts : List ℤ) (len : ℕ) (x : ℤ) → Recorded vs ts len → Free vs x → len < length vs
recorded_room vs ts len x k f =
    let a = f.some in
    let b = f.within in
    let e = unset_count_fill vs (nat_abs x - 1) x (omega arith) f.unset f.some in
    let n = k.count in
    omega arith

pub recorded_assign : (vs ts : List ℤ) (len : ℕ) (x : ℤ) → Recorded vs ts len → Free vs x → len < length ts → Recorded (set vs (nat_abs x - 1) x) (set ts len x) (len + 1)
recorded_assign vs ts len x k f lt =
    let some' = f.some in
    let within' = f.within in
    let i = nat_abs x - 1 in
    let li : nat_abs x - 1 < length vs = omega arith in
    let here : get_or (set ts len x) len (pos 0) ≡ x = get_or-set_same ts len x (pos 0) lt in
    let old : (j : ℕ) → j < len → get_or (set ts len x) j (pos 0) ≡ get_or ts j (pos 0) = λ j l. let ne : j ≢ len = omega arith in get_or-set_other ts len j x (pos 0) ne in
    let by : (Q : ℤ → Type 0) → Q x → ((j : ℕ) → j < len → Q (get_or ts j (pos 0))) → (j : ℕ) → j < len + 1 → Q (get_or (set ts len x) j (pos 0)) =
    λ Q q o j l. ⊎_elim (λ (e : j ≡ len). rw (e, here) q) (λ (ne : j ≡ len → ⊥). rw (old j (omega (arith, ne))) (o j (omega (arith, ne)))) (cases_eq j len) in
    let same : val (set vs i x) (nat_abs x) ≡ x = get_or-set_same vs i x (pos 0) li in
    let other : (v : ℕ) → 1 ≤ v → (v ≡ nat_abs x → ⊥) → val (set vs i x) v ≡ val vs v = λ v l ne. let n : v - 1 ≢ nat_abs x - 1 = λ e. ne (omega (arith, e)) in get_or-set_other vs i (v - 1) x (pos 0) n in
    record {
      on = λ v l n. ⊎_elim
          (λ (e : v ≡ nat_abs x). rw (e, same) (refl, (len, omega arith, here)))
          (λ (ne : v ≡ nat_abs x → ⊥).
          let r = k.on v l (λ z. n (other v l ne ∙ z)) in
          rw (other v l ne) (r.0, (r.1.0, let b = r.1.1 in omega (arith, b), old r.1.0 r.1.1 ∙ r.1.2)))
          (cases_eq v (nat_abs x));
      some = by (λ t. 1 ≤ nat_abs t) f.some k.some;
      within = λ j l. rw (length-set vs i x) (by (λ t. nat_abs t ≤ length vs) f.within k.within j l);
      there = by (λ t. val (set vs i x) (nat_abs t) ≡ t) same (λ j l. other (nat_abs (get_or ts j (pos 0))) (k.some j l) (fresh vs ts len x k f.unset j l) ∙ k.there j l);
      apart = λ a b l m e. ⊎_elim
          (λ (q : b ≡ len).
          let al : a < len = omega arith in
          fresh vs ts len x k f.unset a al (ap nat_abs (sym (old a al)) ∙ e ∙ ap (λ n. nat_abs (get_or (set ts len x) n (pos 0))) q ∙ ap nat_abs here))
          (λ (ne : b ≡ len → ⊥).
          let bl : b < len = omega (arith, ne) in
          let al : a < len = omega arith in
          k.apart a b l bl (ap nat_abs (sym (old a al)) ∙ e ∙ ap nat_abs (old b bl)))
          (cases_eq b len);
      count =
          let z = unset_count_fill vs i x li f.unset f.some in
          let c = k.count in
          let n = length-set vs i x in
          omega arith;
    }

pub recorded_pop : (vs ts : List ℤ) (p : ℕ) → Recorded vs ts (p + 1) → Recorded (set vs (nat_abs (get_or ts p (pos 0)) - 1) (pos 0)) ts p
recorded_pop vs ts p k =
    let t = get_or ts p (pos 0) in
    let last : p < p + 1 = omega arith in
    let some' = k.some p last in
    let within' = k.within p last in
    let i = nat_abs (get_or ts p (pos 0)) - 1 in
    let li : nat_abs (get_or ts p (pos 0)) - 1 < length vs = omega arith in
    let same : val (set vs i (pos 0)) (nat_abs t) ≡ pos 0 = get_or-set_same vs i (pos 0) (pos 0) li in
    let other : (v : ℕ) → 1 ≤ v → (v ≡ nat_abs (get_or ts p (pos 0)) → ⊥) → val (set vs i (pos 0)) v ≡ val vs v = λ v l ne. let n : v - 1 ≢ nat_abs (get_or ts p (pos 0)) - 1 = λ e. ne (omega (arith, e)) in get_or-set_other vs i (v - 1) (pos 0) (pos 0) n in
    record {
      on = λ v l n. ⊎_elim
          (λ (e : v ≡ nat_abs t). absurd (n (ap (val (set vs i (pos 0))) e ∙ same)))
          (λ (ne : v ≡ nat_abs t → ⊥).
          let r = k.on v l (λ z. n (other v l ne ∙ z)) in
          let not_last : r.1.0 ≡ p → ⊥ = λ q. ne (sym r.0 ∙ ap nat_abs (sym r.1.2 ∙ ap (λ n. get_or ts n (pos 0)) q)) in
          rw (other v l ne) (r.0, (r.1.0, let b = r.1.1 in omega (arith, b, not_last), r.1.2)))
          (cases_eq v (nat_abs t));
      some = λ j l. k.some j (omega arith);
      within = λ j l. rw (length-set vs i (pos 0)) (k.within j (omega arith));
      there = λ j l. other (nat_abs (get_or ts j (pos 0))) (k.some j (omega arith)) (k.apart j p l last) ∙ k.there j (omega arith);
      apart = λ a b l m. k.apart a b l (omega arith);
      count =
          let s : 1 ≤ nat_abs (get_or vs i (pos 0)) = rw (k.there p last) (k.some p last) in
          let z = unset_count_free vs i li s in
          let c = k.count in
          let n = length-set vs i (pos 0) in
          omega arith;
    }

-- what the last entry was is not set any more
pub popped_free : (vs ts : List ℤ) (p : ℕ) → Recorded vs ts (p + 1) → val (set vs (nat_abs (get_or ts p (pos 0)) - 1) (pos 0)) (nat_abs (get_or ts p (pos 0))) ≡ pos 0
popped_free vs ts p k =
    let last : p < p + 1 = omega arith in
    let some' = k.some p last in
    let within' = k.within p last in
    get_or-set_same vs (nat_abs (get_or ts p (pos 0)) - 1) (pos 0) (pos 0) (omega arith)

up : (row : Row) (v : ℕ) (w : ℤ) → lt_z (pos 0) w ≡ true → nat_abs w ≡ v → holds row w ≡ true → row v ≡ true
up row v (pos n) h e t = ap row (sym e) ∙ t
up row v (negsuc n) h e t = absurd (false≢true h)

down : (row : Row) (v : ℕ) (w : ℤ) → lt_z w (pos 0) ≡ true → nat_abs w ≡ v → holds row w ≡ true → row v ≡ false
down row v (pos zero) h e t = absurd (false≢true h)
down row v (pos (suc n)) h e t = absurd (not-suc-le-zero (ltb-true (suc n) 0 h))
down row v (negsuc n) h e t = ap row (sym e) ∙ not-true (row (suc n)) t

-- a row that agrees with the trail agrees with the values
pub extends : (vs ts : List ℤ) (len : ℕ) (row : Row) → Recorded vs ts len → Before ts len row → Extends row vs
extends vs ts len row k b v l = (
  (λ h. let r = k.on v l (λ z. false≢true (sym (ap (lt_z (pos 0)) z) ∙ h)) in up row v (val vs v) h r.0 (ap (holds row) (sym r.1.2) ∙ b r.1.0 r.1.1)),
  (λ h. let r = k.on v l (λ z. false≢true (sym (ap (λ (w : ℤ). lt_z w (pos 0)) z) ∙ h)) in down row v (val vs v) h r.0 (ap (holds row) (sym r.1.2) ∙ b r.1.0 r.1.1)),
)

-- the same, as a loop that counts down has it
pub pop_at : (vs ts : List ℤ) (n v : ℕ) → 0 < n → v ≡ nat_abs (get_or ts (n - 1) (pos 0)) → Recorded vs ts n → Recorded (set vs (v - 1) (pos 0)) ts (n - 1)
pop_at vs ts n v l e k =
    let q : n ≡ (n - 1) + 1 = omega arith in
    let k' : Recorded vs ts ((n - 1) + 1) = subst (λ m. Recorded vs ts m) q k in
    subst (λ (w : ℕ). Recorded (set vs (w - 1) (pos 0)) ts (n - 1)) (sym e) (recorded_pop vs ts (n - 1) k')

pub pop_free : (vs ts : List ℤ) (n v : ℕ) → 0 < n → v ≡ nat_abs (get_or ts (n - 1) (pos 0)) → Recorded vs ts n → val (set vs (v - 1) (pos 0)) (nat_abs (get_or ts (n - 1) (pos 0))) ≡ pos 0
pop_free vs ts n v l e k =
    let q : n ≡ (n - 1) + 1 = omega arith in
    let k' : Recorded vs ts ((n - 1) + 1) = subst (λ m. Recorded vs ts m) q k in
    subst (λ (w : ℕ). val (set vs (w - 1) (pos 0)) (nat_abs (get_or ts (n - 1) (pos 0))) ≡ pos 0) (sym e) (popped_free vs ts (n - 1) k')
