-- The bytes, words and signs of a line.
use Rattle.std.proofs.Common.{◌≡◌, ℕ, suc, ◌+◌, Bool, true, false, cond, not, ◌||◌, eqb, List, [], ◌∷◌, take, drop, Some, None, Option, sym, refl, ap, ◌∙◌, ⊎_elim, arith}
use Rattle.std.specs.List.{list_all, prefix_len}
use Rattle.std.proofs.lemmas.Bool.{cases_Bool, eqb-true, both_ways, cond-true, cond-false, or_cases, and_from}
use Rattle.netlist_text.specs.Words.{name_byte, sign_byte, line_byte, stray, Lexeme, word, sign, in_word, lexeme, lexemes}

-- ── bytes ──
none_first : (t : Bool) (k : ℕ) (o : Option ℕ) → cond (not t) (Some k) o ≡ None → (t ≡ true) × (o ≡ None)
none_first true k o e = (refl, e)
none_first false k o e = absurd (grind arith)

-- where no byte is stray, each may stand in a line
pub clean_bytes : (k : ℕ) (l : List ℕ) → stray k l ≡ None → list_all line_byte l ≡ true
clean_bytes k [] e = refl
clean_bytes k (b ∷ bs) e =
    let h = none_first (line_byte b) k (stray (k + 1) bs) e in
    and_from (line_byte b) (list_all line_byte bs) h.0 (clean_bytes (k + 1) bs h.1)

pub name_byte_from : (b : ℕ) → line_byte b ≡ true → (b ≡ 32 → ⊥) → (b ≡ 40 → ⊥) → (b ≡ 41 → ⊥) → (b ≡ 44 → ⊥) → (b ≡ 61 → ⊥) → name_byte b ≡ true
name_byte_from b e n32 n40 n41 n44 n61 =
    ⊎_elim (λ h. h) (λ h.
    ⊎_elim (λ s. absurd (n32 (eqb-true b 32 s))) (λ h1.
    ⊎_elim (λ s. absurd (n40 (eqb-true b 40 s))) (λ h2.
    ⊎_elim (λ s. absurd (n41 (eqb-true b 41 s))) (λ h3.
    ⊎_elim (λ s. absurd (n44 (eqb-true b 44 s))) (λ s. absurd (n61 (eqb-true b 61 s)))
    (or_cases (eqb b 44) (eqb b 61) h3))
    (or_cases (eqb b 41) (eqb b 44 || eqb b 61) h2))
    (or_cases (eqb b 40) (eqb b 41 || (eqb b 44 || eqb b 61)) h1))
    (or_cases (eqb b 32) (sign_byte b) h))
    (or_cases (name_byte b) (eqb b 32 || sign_byte b) e)

-- a byte of a name is no space
not_space : (b : ℕ) → name_byte b ≡ true → eqb b 32 ≡ false
not_space b h =
    ⊎_elim (λ s. absurd (both_ways (name_byte b) (ap name_byte (eqb-true b 32 s)) h)) (λ s. s) (cases_Bool (eqb b 32))

-- ── words ──
-- how far the word at the front reaches
abbrev pub word_len : List ℕ → ℕ
word_len = prefix_len name_byte

pub word_len_on : (b : ℕ) (bs : List ℕ) → name_byte b ≡ true → word_len (b ∷ bs) ≡ suc (word_len bs)
word_len_on b bs h = let e : 1 + word_len bs ≡ suc (word_len bs) = omega arith in cond-true (name_byte b) (1 + word_len bs) 0 h ∙ e

pub word_len_off : (b : ℕ) (bs : List ℕ) → name_byte b ≡ false → word_len (b ∷ bs) ≡ 0
word_len_off b bs h = cond-false (name_byte b) (1 + word_len bs) 0 h

lexeme_name : (b : ℕ) (more : Bool) (ts : List Lexeme) → name_byte b ≡ true → lexeme b more ts ≡ cond more (in_word b ts) (word (b ∷ []) ∷ ts)
lexeme_name b more ts h = cond-false (eqb b 32) ts _ (not_space b h) ∙ cond-true (name_byte b) _ (sign b ∷ ts) h

pub lexemes_word : (b : ℕ) (bs : List ℕ) → name_byte b ≡ true → lexemes (b ∷ bs) ≡ word (take (word_len (b ∷ bs)) (b ∷ bs)) ∷ lexemes (drop (word_len (b ∷ bs)) (b ∷ bs))
lexemes_word b [] h = lexeme_name b false [] h ∙ ap (λ n. word (take n (b ∷ [])) ∷ lexemes (drop n (b ∷ []))) (sym (word_len_on b [] h))
lexemes_word b (d ∷ bs) h =
    lexeme_name b (name_byte d) (lexemes (d ∷ bs)) h
    ∙ ⊎_elim
    (λ t. cond-true (name_byte d) _ _ t ∙ ap (in_word b) (lexemes_word d bs t))
    (λ f. cond-false (name_byte d) _ _ f ∙ ap (λ n. word (b ∷ take n (d ∷ bs)) ∷ lexemes (drop n (d ∷ bs))) (sym (word_len_off d bs f)))
    (cases_Bool (name_byte d))
    ∙ ap (λ n. word (take n (b ∷ d ∷ bs)) ∷ lexemes (drop n (b ∷ d ∷ bs))) (sym (word_len_on b (d ∷ bs) h))

-- ── spaces ──
pub lexemes_behind_spaces : (l : List ℕ) → lexemes (drop (prefix_len (λ b. eqb b 32) l) l) ≡ lexemes l
lexemes_behind_spaces [] = refl
lexemes_behind_spaces (b ∷ bs) =
    let n = prefix_len (λ x. eqb x 32) bs in
    ⊎_elim
    (λ t.
    let e : 1 + n ≡ suc n = omega arith in
    ap (λ k. lexemes (drop k (b ∷ bs))) (cond-true (eqb b 32) (1 + n) 0 t ∙ e)
    ∙ lexemes_behind_spaces bs
    ∙ ap (λ x. lexemes (x ∷ bs)) (sym (eqb-true b 32 t)))
    (λ f. ap (λ k. lexemes (drop k (b ∷ bs))) (cond-false (eqb b 32) (1 + n) 0 f))
    (cases_Bool (eqb b 32))
