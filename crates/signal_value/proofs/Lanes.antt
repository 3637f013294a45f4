-- The bits of a word's lanes under AND, OR, XOR and NOT.
use Rattle.std.proofs.Common.{◌≡◌, ℕ, zero, suc, ◌+◌, ◌-◌, ◌*◌, ◌/◌, ◌%◌, ◌^◌, ◌<◌, Bool, true, false, not, ◌&&◌, ◌||◌, eqb, ◌⊎◌, refl, ap, ◌∙◌, inl, inr, arith}
use lib.Bits.{bit_and, bit_or, bit_xor, and_shr, or_shr, xor_shr, and_mod, or_mod, xor_mod, and_mask, xor_add_and}
use Rattle.std.proofs.lemmas.Bool.{and_parts}
use Rattle.signal_value.specs.Law.{xor}
use Rattle.signal_value.specs.Kept.{lane}

-- one bit: a remainder by 2
parity : (x : ℕ) → (x % 2 ≡ 0) ⊎ (x % 2 ≡ 1)
parity x = search arith

module _ (op : ℕ → ℕ → ℕ) (f : Bool → Bool → Bool)
    (shr : (a b k : ℕ) → op a b / 2 ^ k ≡ op (a / 2 ^ k) (b / 2 ^ k))
    (low : (a b : ℕ) → op a b % 2 ≡ op (a % 2) (b % 2))
    (bits : (p q : ℕ) → p < 2 → q < 2 → eqb (op p q) 1 ≡ f (eqb p 1) (eqb q 1)) where
  pub lane_op : (a b i : ℕ) → lane (op a b) i ≡ f (lane a i) (lane b i)
  lane_op a b i =
      ap (λ n. eqb (n % 2) 1) (shr a b i)
      ∙ ap (λ n. eqb n 1) (low (a / 2 ^ i) (b / 2 ^ i))
      ∙ bits (a / 2 ^ i % 2) (b / 2 ^ i % 2) (omega arith) (omega arith)

-- a fact of two numbers below 2, from its four cases
two_bits : (P : ℕ → ℕ → Type 0) → P 0 0 → P 0 1 → P 1 0 → P 1 1 → (p q : ℕ) → p < 2 → q < 2 → P p q
two_bits P a b c d zero zero h k = a
two_bits P a b c d zero (suc zero) h k = b
two_bits P a b c d (suc zero) zero h k = c
two_bits P a b c d (suc zero) (suc zero) h k = d
two_bits P a b c d zero (suc (suc q)) h k = absurd (omega arith)
two_bits P a b c d (suc zero) (suc (suc q)) h k = absurd (omega arith)
two_bits P a b c d (suc (suc p)) q h k = absurd (omega arith)

pub lane_and : (a b i : ℕ) → lane (bit_and a b) i ≡ (lane a i && lane b i)
lane_and = lane_op bit_and ◌&&◌ and_shr (λ a b. and_mod a b 1) (two_bits (λ p q. eqb (bit_and p q) 1 ≡ (eqb p 1 && eqb q 1)) refl refl refl refl)

pub lane_or : (a b i : ℕ) → lane (bit_or a b) i ≡ (lane a i || lane b i)
lane_or = lane_op bit_or ◌||◌ or_shr (λ a b. or_mod a b 1) (two_bits (λ p q. eqb (bit_or p q) 1 ≡ (eqb p 1 || eqb q 1)) refl refl refl refl)

pub lane_xor : (a b i : ℕ) → lane (bit_xor a b) i ≡ xor (lane a i) (lane b i)
lane_xor = lane_op bit_xor xor xor_shr (λ a b. xor_mod a b 1) (two_bits (λ p q. eqb (bit_xor p q) 1 ≡ xor (eqb p 1) (eqb q 1)) refl refl refl refl)

-- ── the word with a 1 in each lane ──
below : (ℕ → Bool) → ℕ → Bool
below p zero = true
below p (suc n) = p n && below p n

below_at : (p : ℕ → Bool) (n i : ℕ) → below p n ≡ true → i < n → p i ≡ true
unfolding below
below_at p zero i e h = absurd (omega arith)
below_at p (suc n) i e h =
    let (last, rest) = and_parts (p n) (below p n) e in
    elim (apart i n h) [ inl same ↦ ap p same ∙ last | inr less ↦ below_at p n i rest less ]
  where
    apart : (i n : ℕ) → i < suc n → (i ≡ n) ⊎ (i < n)
    apart i n h = search arith

pub lane_ones : (i : ℕ) → i < 32 → lane 4294967295 i ≡ true
unfolding below
lane_ones i h = below_at (lane 4294967295) 32 i refl h

pub lane_zero : (i : ℕ) → lane 0 i ≡ false
lane_zero i = ap (λ n. eqb (n % 2) 1) (nothing i)
  where
    nothing : (i : ℕ) → 0 / 2 ^ i ≡ 0
    nothing i = search arith

-- what the ones less a word leave is the word's exclusive or with them
ones_less : (w : ℕ) → w < 2 ^ 32 → 4294967295 - w ≡ bit_xor w 4294967295
ones_less w h =
    let masked : bit_and w 4294967295 ≡ w % 2 ^ 32 = and_mask w 32 in
    let sum : bit_xor w 4294967295 + bit_and w 4294967295 * 2 ≡ w + 4294967295 = xor_add_and w 4294967295 in
    omega (arith, masked, sum)

pub lane_not : (w i : ℕ) → w < 2 ^ 32 → i < 32 → lane (4294967295 - w) i ≡ not (lane w i)
lane_not w i h k = ap (λ n. lane n i) (ones_less w h) ∙ lane_xor w 4294967295 i ∙ ap (λ b. xor (lane w i) b) (lane_ones i k) ∙ xor-true (lane w i)
  where
    xor-true : (b : Bool) → xor b true ≡ not b
    xor-true true = refl
    xor-true false = refl
