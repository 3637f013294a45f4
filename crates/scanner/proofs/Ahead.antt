-- The word or sign at a place of a line's bytes, and what is behind it.
use Rattle.std.proofs.Common.{◌≡◌, ℕ, zero, suc, ◌+◌, ◌-◌, ◌<◌, ◌≤◌, Bool, true, eqb, List, [], ◌∷◌, length, get_or, take, drop, sym, refl, ap, ◌∙◌, subst, ⊎_elim, drop-cons, arith}
use Rattle.std.specs.List.{list_all, prefix_len}
use Rattle.std.proofs.lemmas.List.{take_rest, drop-drop}
use Rattle.std.proofs.lemmas.List.Sums.{prefix_len-drop_no, prefix_len-drop_all, prefix_len_stops}
use Rattle.std.proofs.lemmas.Bool.{and_parts, cond-true, cases_lt, eq-eqb}
use Rattle.netlist_text.specs.Words.{name_byte, line_byte, word, lexemes}
use Rattle.netlist_text.proofs.Lexing.{name_byte_from, lexemes_word, lexemes_behind_spaces}

all_drop : {A : Type 0} (p : A → Bool) (n : ℕ) (xs : List A) → list_all p xs ≡ true → list_all p (drop n xs) ≡ true
all_drop p zero xs a = a
all_drop p (suc n) [] a = refl
all_drop p (suc n) (x ∷ xs) a = all_drop p n xs (and_parts (p x) (list_all p xs) a).1

-- no space is at the front
no_space : (b : ℕ) (bs : List ℕ) → prefix_len (λ x. eqb x 32) (b ∷ bs) ≡ 0 → b ≡ 32 → ⊥
no_space b bs e s = let h = cond-true (eqb b 32) (1 + prefix_len (λ x. eqb x 32) bs) 0 (eq-eqb b 32 s) in absurd (omega arith)

-- ── at a place of a clean line where neither a space nor a sign is ──
module _ (l : List ℕ) (at b : ℕ) (lt : at < length l) (here : get_or l at b ≡ b) (clean : list_all line_byte l ≡ true) (begun : prefix_len (λ x. eqb x 32) (drop at l) ≡ 0) (n40 : b ≡ 40 → ⊥) (n41 : b ≡ 41 → ⊥) (n44 : b ≡ 44 → ⊥) (n61 : b ≡ 61 → ⊥) where
  opened : drop at l ≡ b ∷ drop (suc at) l
  opened = drop-cons l at b lt ∙ ap (λ x. x ∷ drop (suc at) l) here

  named : name_byte b ≡ true
  named =
      let all = subst (λ (xs : List ℕ). list_all line_byte xs ≡ true) opened (all_drop line_byte at l clean) in
      name_byte_from b (and_parts (line_byte b) (list_all line_byte (drop (suc at) l)) all).0 (no_space b (drop (suc at) l) (ap (prefix_len (λ x. eqb x 32)) (sym opened) ∙ begun)) n40 n41 n44 n61

  pub word_here : (n : ℕ) → n ≡ prefix_len name_byte (take (length l - at) (drop at l)) → lexemes (drop at l) ≡ word (take n (take (length l - at) (drop at l))) ∷ lexemes (drop (at + n) l)
  word_here n e =
      let same = take_rest l at in
      let m : n ≡ prefix_len name_byte (b ∷ drop (suc at) l) = e ∙ ap (prefix_len name_byte) (same ∙ opened) in
      let k = prefix_len name_byte (b ∷ drop (suc at) l) in
      ap lexemes opened
      ∙ lexemes_word b (drop (suc at) l) named
      ∙ ap (λ xs. word (take k xs) ∷ lexemes (drop k xs)) (sym opened)
      ∙ ap (λ i. word (take i (drop at l)) ∷ lexemes (drop i (drop at l))) (sym m)
      ∙ ap (λ xs. word (take n xs) ∷ lexemes (drop n (drop at l))) (sym same)
      ∙ ap (λ xs. word (take n (take (length l - at) (drop at l))) ∷ lexemes xs) (drop-drop n at l)

  pub word_some : (n : ℕ) → n ≡ prefix_len name_byte (take (length l - at) (drop at l)) → 1 ≤ n
  word_some n e =
      let m : n ≡ prefix_len name_byte (b ∷ drop (suc at) l) = e ∙ ap (prefix_len name_byte) (take_rest l at ∙ opened) in
      let h = cond-true (name_byte b) (1 + prefix_len name_byte (drop (suc at) l)) 0 named in
      omega arith

-- ── behind n spaces ──
none_ahead : (p : ℕ → Bool) (l : List ℕ) → prefix_len p (drop (prefix_len p l) l) ≡ 0
none_ahead p l =
    ⊎_elim (λ lt. prefix_len-drop_no p l (prefix_len p l) 0 lt (prefix_len_stops p l 0 lt)) (λ ge. prefix_len-drop_all p l (prefix_len p l) ge) (cases_lt (prefix_len p l) (length l))

module _ (l : List ℕ) (at n : ℕ) (is : n ≡ prefix_len (λ b. eqb b 32) (take (length l - at) (drop at l))) where
  spaces : n ≡ prefix_len (λ b. eqb b 32) (drop at l)
  spaces = is ∙ ap (prefix_len (λ b. eqb b 32)) (take_rest l at)

  front : drop (at + n) l ≡ drop (prefix_len (λ b. eqb b 32) (drop at l)) (drop at l)
  front = sym (drop-drop n at l) ∙ ap (λ k. drop k (drop at l)) spaces

  pub behind_same : lexemes (drop (at + n) l) ≡ lexemes (drop at l)
  behind_same = ap lexemes front ∙ lexemes_behind_spaces (drop at l)

  pub behind_begun : prefix_len (λ b. eqb b 32) (drop (at + n) l) ≡ 0
  behind_begun = ap (prefix_len (λ b. eqb b 32)) front ∙ none_ahead (λ b. eqb b 32) (drop at l)
