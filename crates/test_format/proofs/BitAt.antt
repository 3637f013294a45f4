-- One bit of bytes, by its place.
use Rattle.std.proofs.Common.{◌≡◌, ℕ, zero, suc, ◌+◌, ◌-◌, ◌*◌, ◌/◌, ◌%◌, ◌^◌, ◌<◌, ◌≤◌, Bool, false, cond, eqb, List, [], ◌∷◌, ◌++◌, length, get_or, take, sym, refl, ap, ◌∙◌, div-one, arith}
use native.Mathlib.Nat.{pow-succ', div-div-eq-div-mul}
use lib.Bits.{bit_and}
use Rattle.std.proofs.lemmas.List.{get_or_append_left, get_or-append_right, get_or_past}
use Rattle.std.proofs.lemmas.Nat.{and_mask}
use Rattle.test_format.specs.Packing.{bits, unpack}
use Rattle.test_format.specs.Records.{ones}
use Rattle.test_format.proofs.Packed.{length_bits, length_unpack}

-- ── of one byte ──
lowest : (n : ℕ) → bit_and n 1 ≡ n % 2
lowest n = and_mask n 1

bit_of : (k n j : ℕ) → j < k → get_or (bits k n) j false ≡ eqb (bit_and (n / 2 ^ j) 1) 1
unfolding bits
bit_of zero n j h = absurd (omega arith)
bit_of (suc k) n zero h =
    let same : n % 2 ≡ bit_and (n / 1) 1 = sym (lowest (n / 1) ∙ ap (λ m. m % 2) (div-one n)) in
    ap (λ m. eqb m 1) same
bit_of (suc k) n (suc j) h =
    let same : n / 2 / 2 ^ j ≡ n / 2 ^ suc j = div-div-eq-div-mul n 2 (2 ^ j) ∙ ap (λ m. n / m) (sym (pow-succ' 2 j)) in
    bit_of k (n / 2) j (omega arith) ∙ ap (λ m. eqb (bit_and m 1) 1) same

-- ── of bytes ──
in_byte : (g : List ℕ) (q r : ℕ) → r < 8 → q < length g → get_or (unpack g) (8 * q + r) false ≡ get_or (bits 8 (get_or g q 0)) r false
unfolding unpack
in_byte [] q r h l = absurd (omega arith)
in_byte (b ∷ g) zero r h l =
    let e : 8 * 0 + r ≡ r = omega arith in
    ap (λ i. get_or (bits 8 b ++ unpack g) i false) e ∙ get_or_append_left (bits 8 b) (unpack g) false r (omega (arith, length_bits 8 b))
in_byte (b ∷ g) (suc q) r h l =
    let e : 8 * suc q + r - 8 ≡ 8 * q + r = omega arith in
    get_or-append_right (bits 8 b) (unpack g) 8 (8 * suc q + r) false (length_bits 8 b) (omega arith)
    ∙ ap (λ i. get_or (unpack g) i false) e
    ∙ in_byte g q r h (omega arith)

pub bit_in : (g : List ℕ) (i : ℕ) → i / 8 < length g → get_or (unpack g) i false ≡ eqb (bit_and (get_or g (i / 8) 0 / 2 ^ (i % 8)) 1) 1
bit_in g i h =
    let e : i ≡ 8 * (i / 8) + i % 8 = omega arith in
    ap (λ m. get_or (unpack g) m false) e ∙ in_byte g (i / 8) (i % 8) (omega arith) h ∙ bit_of 8 (get_or g (i / 8) 0) (i % 8) (omega arith)

pub bit_past : (g : List ℕ) (i : ℕ) → length g ≤ i / 8 → get_or (unpack g) i false ≡ false
bit_past g i h = get_or_past (unpack g) i false (omega (arith, length_unpack g))

-- ── a count of ones, one bit on ──
ones_next : (u : List Bool) (i : ℕ) → ones (take (suc i) u) ≡ ones (take i u) + cond (get_or u i false) 1 0
unfolding ones
ones_next [] zero = refl
ones_next [] (suc i) = refl
ones_next (b ∷ u) zero = omega arith
ones_next (b ∷ u) (suc i) = omega (arith, ones_next u i)

pub ones_more : (u : List Bool) (i : ℕ) → ones (take (i + 1) u) ≡ ones (take i u) + cond (get_or u i false) 1 0
ones_more u i = let e : i + 1 ≡ suc i = omega arith in ap (λ n. ones (take n u)) e ∙ ones_next u i
