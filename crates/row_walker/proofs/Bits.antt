-- What `&` and `|` do to masks, said of the variables that they hold.
use Rattle.std.proofs.Common.{◌≡◌, ℕ, zero, suc, ◌+◌, ◌*◌, ◌/◌, ◌%◌, ◌^◌, ◌<◌, min, Bool, true, false, not, ◌&&◌, ◌||◌, eqb, ◌⊎◌, sym, refl, ap, ◌∙◌, inl, inr, ⊎_elim, pow-suc, arith, shr-shr}
use lib.Bits.{bit_and, bit_or, and_step, or_step, and_zero_r, or_zero_r}
use Rattle.std.proofs.Math.Bool.{and-false, or_assoc}
use Rattle.std.proofs.lemmas.Bool.{eq-eqb, ne_eqb, cases_eq}
use Rattle.solver.specs.Rows.{Row}
use Rattle.row_walker.specs.Masks.{odd, inverse, meets}

-- the bits of n stand for the variables after v in the row
abbrev pub BitsOf : ℕ → ℕ → Row → Type 0
BitsOf v n row = (j : ℕ) → row (suc (v + j)) ≡ odd (n / 2 ^ j)

bits_first : (v n : ℕ) (row : Row) → BitsOf v n row → row (suc v) ≡ odd n
bits_first v n row h =
    let e : suc (v + 0) ≡ suc v = omega arith in
    let f : n / 2 ^ 0 ≡ n = omega arith in
    sym (ap row e) ∙ h 0 ∙ ap odd f

bits_rest : (v n : ℕ) (row : Row) → BitsOf v n row → BitsOf (suc v) (n / 2) row
bits_rest v n row h j =
    let e : suc (suc v + j) ≡ suc (v + suc j) = omega arith in
    let f : 1 + j ≡ suc j = omega arith in
    ap row e ∙ h (suc j) ∙ ap odd (sym (shr-shr n 1 j ∙ ap (λ k. n / 2 ^ k) f))

half_below : (k m : ℕ) → m < 2 ^ suc k → m / 2 < 2 ^ k
half_below k m h = let e : 2 ^ suc k ≡ 2 ^ k * 2 = pow-suc 2 k in omega arith

parity : (n : ℕ) → (n % 2 ≡ 0) ⊎ (n % 2 ≡ 1)
parity n = ⊎_elim (λ e. inl e) (λ ne. inr (omega (arith, ne))) (cases_eq (n % 2) 0)

odd_no : (n : ℕ) → n % 2 ≡ 0 → odd n ≡ false
odd_no n h = ne_eqb (n % 2) 1 (λ e. omega (arith, e, h))

odd_yes : (n : ℕ) → n % 2 ≡ 1 → odd n ≡ true
odd_yes n h = eq-eqb (n % 2) 1 h

-- two equations that follow from one another are tested alike
same_test : (a b c d : ℕ) → (a ≡ b → c ≡ d) → (c ≡ d → a ≡ b) → eqb a b ≡ eqb c d
same_test a b c d f g = ⊎_elim (λ e. eq-eqb a b e ∙ sym (eq-eqb c d (f e))) (λ ne. ne_eqb a b ne ∙ sym (ne_eqb c d (λ e. ne (g e)))) (cases_eq a b)

-- no variable of the mask is 1 in the row
pub and_none : (v k n m : ℕ) (row : Row) → BitsOf v n row → m < 2 ^ k → eqb (bit_and n m) 0 ≡ not (meets v k m row)
unfolding meets
and_none v zero n m row h l =
    let e : m ≡ 0 = omega arith in
    ap (λ x. eqb (bit_and n x) 0) e ∙ eq-eqb (bit_and n 0) 0 (and_zero_r n)
and_none v (suc k) n m row h l =
    let x = bit_and (n / 2) (m / 2) in
    let s = and_step n m in
    let rest = and_none (suc v) k (n / 2) (m / 2) row (bits_rest v n row h) (half_below k m l) in
    let first = bits_first v n row h in
    let apart : min (n % 2) (m % 2) ≡ 0 → (odd m && row (suc v)) ≡ false → eqb (bit_and n m) 0 ≡ not (meets v (suc k) m row) =
    λ z o. same_test (bit_and n m) 0 x 0 (λ e. omega (arith, e, s, z)) (λ e. omega (arith, e, s, z)) ∙ rest ∙ ap (λ b. not (b || meets (suc v) k (m / 2) row)) (sym o) in
    ⊎_elim
    (λ me. apart (omega (arith, me)) (ap (λ b. b && row (suc v)) (odd_no m me)))
    (λ mo. ⊎_elim
    (λ ne. apart (omega (arith, ne)) (ap (λ b. odd m && b) (first ∙ odd_no n ne) ∙ and-false (odd m)))
    (λ no'. ne_eqb (bit_and n m) 0 (λ e. omega (arith, e, s, no', mo)) ∙ sym (ap (λ b. not ((b && row (suc v)) || meets (suc v) k (m / 2) row)) (odd_yes m mo) ∙ ap (λ b. not (b || meets (suc v) k (m / 2) row)) (first ∙ odd_yes n no')))
    (parity n))
    (parity m)

-- no variable of the mask is 0 in the row
pub and_all : (v k n m : ℕ) (row : Row) → BitsOf v n row → m < 2 ^ k → eqb (bit_and n m) m ≡ not (meets v k m (inverse row))
unfolding meets
and_all v zero n m row h l =
    let e : m ≡ 0 = omega arith in
    ap (λ x. eqb (bit_and n x) x) e ∙ eq-eqb (bit_and n 0) 0 (and_zero_r n)
and_all v (suc k) n m row h l =
    let x = bit_and (n / 2) (m / 2) in
    let s = and_step n m in
    let rest = and_all (suc v) k (n / 2) (m / 2) row (bits_rest v n row h) (half_below k m l) in
    let first = bits_first v n row h in
    let alike : min (n % 2) (m % 2) ≡ m % 2 → (odd m && not (row (suc v))) ≡ false → eqb (bit_and n m) m ≡ not (meets v (suc k) m (inverse row)) =
    λ z o. same_test (bit_and n m) m x (m / 2) (λ e. omega (arith, e, s, z)) (λ e. omega (arith, e, s, z)) ∙ rest ∙ ap (λ b. not (b || meets (suc v) k (m / 2) (inverse row))) (sym o) in
    ⊎_elim
    (λ me. alike (omega (arith, me)) (ap (λ b. b && not (row (suc v))) (odd_no m me)))
    (λ mo. ⊎_elim
    (λ ne. ne_eqb (bit_and n m) m (λ e. omega (arith, e, s, ne, mo)) ∙ sym (ap (λ b. not ((b && not (row (suc v))) || meets (suc v) k (m / 2) (inverse row))) (odd_yes m mo) ∙ ap (λ b. not (not b || meets (suc v) k (m / 2) (inverse row))) (first ∙ odd_no n ne)))
    (λ no'. alike (omega (arith, no', mo)) (ap (λ b. b && not (row (suc v))) (odd_yes m mo) ∙ ap not (first ∙ odd_yes n no')))
    (parity n))
    (parity m)

or_again : (o r s : Bool) → ((true && r) || s) ≡ (((o && r) || s) || r)
or_again true true s = refl
or_again false true true = refl
or_again false true false = refl
or_again true false true = refl
or_again true false false = refl
or_again false false true = refl
or_again false false false = refl

-- a mask with one bit more holds one variable more
pub or_bit : (v k i m : ℕ) (row : Row) → i < k → meets v k (bit_or m (2 ^ i)) row ≡ (meets v k m row || row (suc (v + i)))
unfolding meets
or_bit v zero i m row l = absurd (omega arith)
or_bit v (suc k) zero m row l =
    let s = or_step m (2 ^ 0) in
    let z : bit_or (m / 2) (2 ^ 0 / 2) ≡ m / 2 = or_zero_r (m / 2) in
    let half : bit_or m (2 ^ 0) / 2 ≡ m / 2 = omega (arith, s, z) in
    let one : bit_or m (2 ^ 0) % 2 ≡ 1 = omega (arith, s, z) in
    let e : suc (v + 0) ≡ suc v = omega arith in
    ap (λ b. (b && row (suc v)) || meets (suc v) k (bit_or m (2 ^ 0) / 2) row) (odd_yes (bit_or m (2 ^ 0)) one)
    ∙ ap (λ x. (true && row (suc v)) || meets (suc v) k x row) half
    ∙ or_again (odd m) (row (suc v)) (meets (suc v) k (m / 2) row)
    ∙ ap (λ w. ((odd m && row (suc v)) || meets (suc v) k (m / 2) row) || row w) (sym e)
or_bit v (suc k) (suc i) m row l =
    let p : 2 ^ suc i ≡ 2 ^ i * 2 = pow-suc 2 i in
    let s = or_step m (2 ^ suc i) in
    let h : 2 ^ suc i / 2 ≡ 2 ^ i = omega (arith, p) in
    let g = ap (λ x. bit_or (m / 2) x) h in
    let half : bit_or m (2 ^ suc i) / 2 ≡ bit_or (m / 2) (2 ^ i) = omega (arith, s, p, g) in
    let low : bit_or m (2 ^ suc i) % 2 ≡ m % 2 = omega (arith, s, p, g) in
    let e : suc (suc v + i) ≡ suc (v + suc i) = omega arith in
    ap (λ x. (eqb x 1 && row (suc v)) || meets (suc v) k (bit_or m (2 ^ suc i) / 2) row) low
    ∙ ap (λ x. (odd m && row (suc v)) || meets (suc v) k x row) half
    ∙ ap (λ b. (odd m && row (suc v)) || b) (or_bit (suc v) k i (m / 2) row (omega arith))
    ∙ sym (or_assoc (odd m && row (suc v)) (meets (suc v) k (m / 2) row) (row (suc (suc v + i))))
    ∙ ap (λ w. ((odd m && row (suc v)) || meets (suc v) k (m / 2) row) || row w) e

-- an empty mask holds no variable
pub meets_none : (v k : ℕ) (row : Row) → meets v k 0 row ≡ false
unfolding meets
meets_none v zero row = refl
meets_none v (suc k) row = meets_none (suc v) k row

-- a mask below 2 ^ vars does not tell rows apart that agree on these variables
pub meets_agree : (v k vars m : ℕ) (a b : Row) → m < 2 ^ vars → ((j : ℕ) → j < vars → a (suc (v + j)) ≡ b (suc (v + j))) → meets v k m a ≡ meets v k m b
unfolding meets
meets_agree v zero vars m a b l g = refl
meets_agree v (suc k) zero m a b l g =
    let e : m ≡ 0 = omega arith in
    rw e (meets_none v (suc k) a ∙ sym (meets_none v (suc k) b))
meets_agree v (suc k) (suc vars) m a b l g =
    let e : suc (v + 0) ≡ suc v = omega arith in
    let first : a (suc v) ≡ b (suc v) = sym (ap a e) ∙ g 0 (omega arith) ∙ ap b e in
    let rest = meets_agree (suc v) k vars (m / 2) a b (half_below vars m l) (λ j h. let f : suc (suc v + j) ≡ suc (v + suc j) = omega arith in ap a f ∙ g (suc j) (omega (arith, h)) ∙ sym (ap b f)) in
    ap (λ x. (odd m && x) || meets (suc v) k (m / 2) a) first ∙ ap (λ x. (odd m && b (suc v)) || x) rest
