-- The lanes of a packed word are its bits; and the loop that packs, from the last bit down.
use Rattle.std.proofs.Common.{◌≡◌, ℕ, zero, suc, ◌+◌, ◌*◌, ◌/◌, ◌%◌, ◌^◌, ◌<◌, ◌≤◌, Bool, true, false, cond, eqb, List, [], ◌∷◌, ◌++◌, length, get_or, sym, refl, ap, ◌∙◌, subst, append-nil, append_assoc, length-append, arith, pow_mono}
use mir.Val.{bool_byte}
use Rattle.std.proofs.lemmas.Nat.{shr-shr, pow-add}
use Rattle.std.proofs.lemmas.Bool.{eq-eqb, ne_eqb}
use Rattle.signal_value.specs.Kept.{lane}
use Rattle.failing.specs.Missed.{word_of}

halved : (b : Bool) (n : ℕ) → (cond b 1 0 + 2 * n) / 2 ≡ n
halved true n = omega arith
halved false n = omega arith

lowest : (b : Bool) (n : ℕ) → eqb ((cond b 1 0 + 2 * n) / 1 % 2) 1 ≡ b
lowest true n = eq-eqb _ 1 (omega arith)
lowest false n = ne_eqb _ 1 (λ e. omega arith)

nothing : (i : ℕ) → 0 / 2 ^ i ≡ 0
nothing i = search arith

pub lane_packed : (bs : List Bool) (i : ℕ) → lane (word_of bs) i ≡ get_or bs i false
lane_packed [] i = ap (λ n. eqb (n % 2) 1) (nothing i)
lane_packed (b ∷ bs) zero = lowest b (word_of bs)
lane_packed (b ∷ bs) (suc i) =
    let split : word_of (b ∷ bs) / 2 ^ 1 / 2 ^ i ≡ word_of (b ∷ bs) / 2 ^ (1 + i) = shr-shr (word_of (b ∷ bs)) 1 i in
    let next : 1 + i ≡ suc i = omega arith in
    ap (λ n. eqb (n % 2) 1) (ap (λ k. word_of (b ∷ bs) / 2 ^ k) (sym next) ∙ sym split ∙ ap (λ n. n / 2 ^ i) (halved b (word_of bs)))
    ∙ lane_packed bs i

pub packed_below : (bs : List Bool) → word_of bs < 2 ^ length bs
packed_below [] = omega arith
packed_below (b ∷ bs) =
    let here = packed_below bs in
    let double : 2 ^ (1 + length bs) ≡ 2 ^ 1 * 2 ^ length bs = pow-add 2 1 (length bs) in
    let next : 1 + length bs ≡ suc (length bs) = omega arith in
    subst (λ (k : ℕ). word_of (b ∷ bs) < 2 ^ k) next (low b (word_of bs) (2 ^ length bs) (2 ^ (1 + length bs)) here double)
  where
    low : (b : Bool) (n m t : ℕ) → n < m → t ≡ 2 * m → cond b 1 0 + 2 * n < t
    low true n m t h e = omega arith
    low false n m t h e = omega arith

-- at most 32 bits fit a word
pub packed_fits : (bs : List Bool) → length bs ≤ 32 → word_of bs < 2 ^ 32
packed_fits bs h = omega (arith, packed_below bs, pow_mono h)

byte_of : (b : Bool) → bool_byte b ≡ cond b 1 0
byte_of true = refl
byte_of false = refl

-- ── the bits bs, of which `left` are still to come and `done` were packed; b is the next ──
pub record PackedSoFar (bs left : List Bool) (word : ℕ) : Type 0 where
  pub done : List Bool
  pub parts : bs ≡ left ++ done
  pub value : word ≡ word_of done

module _ (bs left more : List Bool) (b : Bool) (word : ℕ) (next : left ≡ more ++ b ∷ []) (so_far : PackedSoFar bs left word) where
  split : bs ≡ more ++ (b ∷ so_far.done)
  split = so_far.parts ∙ ap (λ l. l ++ so_far.done) next ∙ append_assoc more (b ∷ []) so_far.done

  packed_is : (y : ℕ) → y ≡ bool_byte b → y + 2 * word ≡ word_of (b ∷ so_far.done)
  packed_is y e = (λ j. e j + 2 * so_far.value j) ∙ ap (λ n. n + 2 * word_of so_far.done) (byte_of b)

  pub packed_next : (y : ℕ) → y ≡ bool_byte b → PackedSoFar bs more (y + 2 * word)
  packed_next y e = record {
    done = b ∷ so_far.done;
    parts = split;
    value = packed_is y e;
  }

  pub next_fits : (y : ℕ) → y ≡ bool_byte b → length bs ≤ 32 → y + 2 * word < 2 ^ 32
  next_fits y e few =
      let room : length (b ∷ so_far.done) ≤ 32 = omega (arith, few, ap length split, length-append more (b ∷ so_far.done)) in
      let fits : word_of (b ∷ so_far.done) < 2 ^ 32 = packed_fits (b ∷ so_far.done) room in
      subst (λ (n : ℕ). n < 2 ^ 32) (sym (packed_is y e)) fits

pub none_packed : (bs left : List Bool) → left ≡ bs → PackedSoFar bs left 0
none_packed bs left e = record { done = []; parts = sym e ∙ sym (append-nil left); value = refl }

pub all_packed : (bs left : List Bool) (word : ℕ) → length left ≡ 0 → PackedSoFar bs left word → word ≡ word_of bs
all_packed bs [] word none so_far = so_far.value ∙ ap word_of (sym so_far.parts)
all_packed bs (y ∷ left) word none so_far = absurd (omega arith)
