-- A clause of masks: what its tests say, and what one literal more does to it.
use Rattle.std.proofs.Common.{◌≡◌, ℕ, suc, ◌+◌, ◌-◌, ◌^◌, ◌<◌, Bool, true, false, not, ◌&&◌, ◌||◌, eqb, ℤ, pos, negsuc, nat_abs, sym, refl, ap, ◌∙◌, arith}
use lib.Bits.{bit_and, bit_or, or_lt}
use lib.Signed.{lt_z}
use Rattle.std.proofs.Math.Bool.{not-not, or_assoc}
use Rattle.std.proofs.lemmas.Nat.{pow_below}
use Rattle.std.proofs.lemmas.Bool.{and_parts, and_from, ltb-true, lt-ltb, leb-true, true≢false}
use Rattle.solver.specs.Rows.{Row, holds, named}
use Rattle.row_walker.specs.declared.clause.Clause.{Clause}
use Rattle.row_walker.specs.Masks.{row_of, inverse, meets, clause_true, within}
use Rattle.row_walker.proofs.Bits.{and_none, and_all, or_bit, meets_agree}
use Rattle.row_walker.proofs.Rows.{row_of_bits}

not_or : (a b : Bool) → (not a && not b) ≡ not (a || b)
not_or true b = refl
not_or false b = refl

module _ (n : ℕ) (c : Clause) (low : c.positive < 2 ^ 32) (high : c.negative < 2 ^ 32) where
  pub some_tested : (not (eqb (bit_and n c.positive) 0) || not (eqb (bit_and n c.negative) c.negative)) ≡ clause_true (row_of n) c
  some_tested =
      ap (λ b. b || not (eqb (bit_and n c.negative) c.negative)) (ap not (and_none 0 32 n c.positive (row_of n) (row_of_bits n) low) ∙ not-not _)
      ∙ ap (λ b. meets 0 32 c.positive (row_of n) || b) (ap not (and_all 0 32 n c.negative (row_of n) (row_of_bits n) high) ∙ not-not _)

  pub all_tested : (eqb (bit_and n c.positive) c.positive && eqb (bit_and n c.negative) 0) ≡ not (clause_true (inverse (row_of n)) c)
  all_tested =
      let row = row_of n in
      let back = meets_agree 0 32 32 c.negative row (inverse (inverse row)) high (λ j l. sym (not-not (row (suc (0 + j))))) in
      ap (λ b. b && eqb (bit_and n c.negative) 0) (and_all 0 32 n c.positive row (row_of_bits n) low)
      ∙ ap (λ b. not (meets 0 32 c.positive (inverse row)) && b) (and_none 0 32 n c.negative row (row_of_bits n) high ∙ ap not back)
      ∙ not_or (meets 0 32 c.positive (inverse row)) (meets 0 32 c.negative (inverse (inverse row)))

or_between : (a b x : Bool) → ((a || x) || b) ≡ ((a || b) || x)
or_between true b x = refl
or_between false true true = refl
or_between false false true = refl
or_between false true false = refl
or_between false false false = refl

holds_positive : (row : Row) (x : ℤ) → lt_z x (pos 0) ≡ false → holds row x ≡ row (nat_abs x)
holds_positive row (pos n) e = refl
holds_positive row (negsuc n) e = absurd (true≢false e)

holds_negative : (row : Row) (x : ℤ) → lt_z x (pos 0) ≡ true → holds row x ≡ not (row (nat_abs x))
holds_negative row (pos n) e = absurd (omega (arith, ltb-true n 0 e))
holds_negative row (negsuc n) e = refl

-- the bit of a literal's variable is the one before its number
place : (vars : ℕ) (x : ℤ) → named vars x ≡ true → (nat_abs x - 1 < vars) × (suc (0 + (nat_abs x - 1)) ≡ nat_abs x)
place vars x k =
    let r = and_parts _ _ k in
    let low = ltb-true 0 (nat_abs x) r.0 in
    let high = leb-true (nat_abs x) vars r.1 in
    (omega arith, omega arith)

below : (vars m i : ℕ) → m < 2 ^ vars → i < vars → bit_or m (2 ^ i) < 2 ^ vars
below vars m i h l = or_lt vars m (2 ^ i) h (pow_below i vars l)

module _ (c : Clause) (x : ℤ) where
  abbrev pub with-positive : Clause
  with-positive = record { positive = bit_or c.positive (2 ^ (nat_abs x - 1)); negative = c.negative }

  abbrev pub with-negative : Clause
  with-negative = record { positive = c.positive; negative = bit_or c.negative (2 ^ (nat_abs x - 1)) }

  pub positive_inside : (vars : ℕ) → named vars x ≡ true → within vars c ≡ true → within vars with-positive ≡ true
  positive_inside vars known h = let r = and_parts _ _ h in and_from _ _ (lt-ltb _ _ (below vars c.positive (nat_abs x - 1) (ltb-true _ _ r.0) (place vars x known).0)) r.1

  pub negative_inside : (vars : ℕ) → named vars x ≡ true → within vars c ≡ true → within vars with-negative ≡ true
  negative_inside vars known h = let r = and_parts _ _ h in and_from _ _ r.0 (lt-ltb _ _ (below vars c.negative (nat_abs x - 1) (ltb-true _ _ r.1) (place vars x known).0))

  joined : named 32 x ≡ true → (m : ℕ) (row : Row) → meets 0 32 (bit_or m (2 ^ (nat_abs x - 1))) row ≡ (meets 0 32 m row || row (nat_abs x))
  joined known m row = let p = place 32 x known in or_bit 0 32 (nat_abs x - 1) m row p.0 ∙ ap (λ v. meets 0 32 m row || row v) p.1

  pub positive_says : named 32 x ≡ true → lt_z x (pos 0) ≡ false → (row : Row) → clause_true row with-positive ≡ (clause_true row c || holds row x)
  positive_says known e row =
      ap (λ b. b || meets 0 32 c.negative (inverse row)) (joined known c.positive row ∙ ap (λ b. meets 0 32 c.positive row || b) (sym (holds_positive row x e)))
      ∙ or_between (meets 0 32 c.positive row) (meets 0 32 c.negative (inverse row)) (holds row x)

  pub negative_says : named 32 x ≡ true → lt_z x (pos 0) ≡ true → (row : Row) → clause_true row with-negative ≡ (clause_true row c || holds row x)
  negative_says known e row =
      ap (λ b. meets 0 32 c.positive row || b) (joined known c.negative (inverse row) ∙ ap (λ b. meets 0 32 c.negative (inverse row) || b) (sym (holds_negative row x e)))
      ∙ sym (or_assoc (meets 0 32 c.positive row) (meets 0 32 c.negative (inverse row)) (holds row x))
