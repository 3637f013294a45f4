-- Bytes of readings, made from the last gate on.
use Rattle.std.proofs.Common.{◌≡◌, ℕ, ◌+◌, ◌*◌, ◌^◌, ◌<◌, ◌≤◌, Bool, true, false, cond, List, [], ◌∷◌, ◌++◌, length, sym, refl, ap, ◌∙◌, subst, append-nil, append_assoc, length-append, pow-suc, pow_mono, arith}
use mir.Val.{bool_byte}
use Rattle.std.specs.List.{AllByRecursion}
use Rattle.diagnosis.specs.Explains.{Values}
use Rattle.diagnosis.specs.Readings.{reading}

pub byte_of : (b : Bool) → bool_byte b ≡ cond b 1 0
byte_of true = refl
byte_of false = refl

reading_step : (b : Bool) (r p : ℕ) → r < p → cond b 1 0 + 2 * r < 2 * p
reading_step true r p l = omega arith
reading_step false r p l = omega arith

reading_few : (S : List ℕ) (w : Values) → reading S w < 2 ^ length S
reading_few [] w = omega arith
reading_few (x ∷ S) w = let h = reading_step (w x) (reading S w) (2 ^ length S) (reading_few S w) in let e = pow-suc 2 (length S) in omega arith

-- ── the gates S, of which `left` are still to come and `done` were read; x is the next ──
pub record ReadSoFar (S left : List ℕ) (w : Values) (byte : ℕ) : Type 0 where
  pub done : List ℕ
  pub parts : S ≡ left ++ done
  pub value : byte ≡ reading done w

module _ (S left more : List ℕ) (x : ℕ) (w : Values) (byte : ℕ) (next : left ≡ more ++ x ∷ []) (so_far : ReadSoFar S left w byte) where
  split : S ≡ more ++ (x ∷ so_far.done)
  split = so_far.parts ∙ ap (λ l. l ++ so_far.done) next ∙ append_assoc more (x ∷ []) so_far.done

  -- the gates read so far leave room for the bit of one more, of six
  pub byte_few : length S ≤ 6 → byte < 32
  byte_few six =
      let few = reading_few so_far.done w in
      let len = ap length split ∙ length-append more (x ∷ so_far.done) in
      let five : length so_far.done ≤ 5 = omega arith in
      let most : 2 ^ length so_far.done ≤ 2 ^ 5 = pow_mono five in
      let is = so_far.value in
      omega arith

  pub reading_more : (b : Bool) → b ≡ w x → ReadSoFar S more w (byte * 2 + cond b 1 0)
  reading_more b e = record {
    done = x ∷ so_far.done;
    parts = split;
    value = turned ∙ ap (λ n. cond b 1 0 + 2 * n) so_far.value ∙ ap (λ y. cond y 1 0 + 2 * reading so_far.done w) e;
  }
    where
      turned : byte * 2 + cond b 1 0 ≡ cond b 1 0 + 2 * byte
      turned = omega arith

  -- what all gates have, the next one has
  pub next_has : (P : ℕ → Type 0) → AllByRecursion P S → P x
  next_has P all = behind more (subst (AllByRecursion P) split all)
    where
      behind : (front : List ℕ) → AllByRecursion P (front ++ (x ∷ so_far.done)) → P x
      behind [] h = h.0
      behind (y ∷ front) h = behind front h.1

pub none_read : (S left : List ℕ) (w : Values) → left ≡ S → ReadSoFar S left w 0
none_read S left w e = record { done = []; parts = sym e ∙ sym (append-nil left); value = refl }

pub all_read : (S left : List ℕ) (w : Values) (byte : ℕ) → length left ≡ 0 → ReadSoFar S left w byte → byte ≡ reading S w
all_read S [] w byte none so_far = so_far.value ∙ ap (λ T. reading T w) (sym so_far.parts)
all_read S (y ∷ left) w byte none so_far = absurd (omega arith)

pub bit_few : (b : Bool) → bool_byte b < 2
bit_few true = omega arith
bit_few false = omega arith
