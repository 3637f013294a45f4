-- The weight of a trail, read as a number in base 3, falls with each entry more and with each decision closed.
use Rattle.std.proofs.Common.{◌≡◌, ℕ, zero, suc, ◌+◌, ◌<◌, ◌≤◌, Bool, true, false, cond, ltb, ◌≢◌, List, length, set, ℤ, pos, sym, refl, ap, ◌∙◌, ⊎_elim, not-suc-le-zero, arith}
use lib.Signed.{lt_z}
use Rattle.std.proofs.lemmas.List.{get_or-set_same, get_or-set_other}
use Rattle.std.proofs.lemmas.Bool.{cases_eq, lt-ltb, le-ltb, cond-true, cond-false}
use Rattle.assignment.specs.Trail.{is_open, digit, weight}

-- lists of digits that agree before n weigh the same
weight_same : (d e : ℕ → ℕ) (n : ℕ) → ((k : ℕ) → k < n → d k ≡ e k) → weight d n ≡ weight e n
weight_same d e zero h = refl
weight_same d e (suc n) h =
    let a = weight_same d e n (λ k l. h k (omega arith)) in
    let b = h n (omega arith) in
    omega arith

-- a smaller digit at p outweighs all behind it
pub weight_less : (d e : ℕ → ℕ) (n p : ℕ) → p < n → ((k : ℕ) → k < p → d k ≡ e k) → d p < e p → ((k : ℕ) → d k ≤ 2) → weight d n < weight e n
weight_less d e zero p l h s two = absurd (not-suc-le-zero l)
weight_less d e (suc n) p l h s two =
    ⊎_elim
    (λ (q : p ≡ n).
    let a = weight_same d e n (λ k j. h k (omega arith)) in
    let b : d n < e n = rw q at s in
    omega arith)
    (λ (q : p ≡ n → ⊥).
    let less : p < n = omega (arith, q) in
    let a = weight_less d e n p less h s two in
    let b = two n in
    omega arith)
    (cases_eq p n)

bit : (b : Bool) → cond b 1 0 ≤ 1
bit true = omega arith
bit false = omega arith

either : (b : Bool) (m : ℕ) → m ≤ 1 → cond b m 2 ≤ 2
either true m l = omega arith
either false m l = omega arith

digit_two : (os : List ℤ) (len k : ℕ) → digit os len k ≤ 2
digit_two os len k = either (ltb k len) (cond (is_open os k) 1 0) (bit (is_open os k))

digit_in : (os : List ℤ) (len k : ℕ) → k < len → digit os len k ≡ cond (is_open os k) 1 0
digit_in os len k l = cond-true (ltb k len) _ _ (lt-ltb k len l)

digit_out : (os : List ℤ) (len k : ℕ) → len ≤ k → digit os len k ≡ 2
digit_out os len k l = cond-false (ltb k len) _ _ (le-ltb k len l)

module _ (os : List ℤ) (p : ℕ) (o : ℤ) (room : p < length os) where
  digit_old : (len k : ℕ) → p ≤ len → k < p → digit (set os p o) (p + 1) k ≡ digit os len k
  digit_old len k l h =
      let ne : k ≢ p = omega arith in
      digit_in (set os p o) (p + 1) k (omega arith) ∙ ap (λ x. cond (lt_z (pos 0) x) 1 0) (get_or-set_other os p k o (pos 0) ne) ∙ sym (digit_in os len k (omega arith))

  digit_new : digit (set os p o) (p + 1) p ≡ cond (lt_z (pos 0) o) 1 0
  digit_new = digit_in (set os p o) (p + 1) p (omega arith) ∙ ap (λ x. cond (lt_z (pos 0) x) 1 0) (get_or-set_same os p o (pos 0) room)

-- one entry more, open or closed
pub assign_less : (os : List ℤ) (len : ℕ) (o : ℤ) (n : ℕ) → len < length os → len < n → weight (digit (set os len o) (len + 1)) n < weight (digit os len) n
assign_less os len o n room l =
    let a = digit_new os len o room in
    let b = digit_out os len len (omega arith) in
    let e = bit (lt_z (pos 0) o) in
    weight_less (digit (set os len o) (len + 1)) (digit os len) n len l (λ k h. digit_old os len o room len k (omega arith) h) (omega arith) (digit_two (set os len o) (len + 1))

-- an open entry closed
pub flip_less : (os : List ℤ) (len p n : ℕ) → p < length os → p < len → p < n → is_open os p ≡ true → weight (digit (set os p (pos 0)) (p + 1)) n < weight (digit os len) n
flip_less os len p n room l w open' =
    let a = digit_new os p (pos 0) room in
    let b = digit_in os len p l ∙ cond-true (is_open os p) 1 0 open' in
    weight_less (digit (set os p (pos 0)) (p + 1)) (digit os len) n p w (λ k h. digit_old os p (pos 0) room len k (omega arith) h) (omega arith) (digit_two (set os p (pos 0)) (p + 1))
