-- Text after text.
use Rattle.std.proofs.Common.{◌≡◌, ℕ, ◌+◌, ◌<◌, ◌≤◌, List, [], ◌∷◌, ◌++◌, length, get_or, take, ℤ, sym, ap, ◌∙◌, subst, append_assoc, append-nil, arith, length-append}
use Rattle.std.specs.Fmt.{signed_decimal}
use Rattle.std.proofs.lemmas.List.{take_more}
use Rattle.arrayvec.specs.ArrayString.{ArrayString as Text}
use Rattle.dimacs.specs.Texts.{Appended, words_of}

pub appended_both : (s t u : Text) (a b : List ℕ) → Appended s a t → Appended t b u → Appended s (a ++ b) u
appended_both s t u a b x y = record {
  put = λ fits.
      let n = length-append a b in
      let e = x.put (omega arith) in
      let m = ap length e ∙ length-append (s.bytes) a in
      y.put (omega arith) ∙ ap (λ z. z ++ b) e ∙ append_assoc (s.bytes) a b;
}

pub appended_as : (s t : Text) (a b : List ℕ) → a ≡ b → Appended s a t → Appended s b t
appended_as s t a b e x = subst (λ (z : List ℕ). Appended s z t) e x

-- a word more
pub words_more : (zs : List ℤ) (i : ℕ) (d : ℤ) → i < length zs → words_of (take (i + 1) zs) ≡ words_of (take i zs) ++ (signed_decimal (get_or zs i d) ++ 32 ∷ [])
words_more zs i d l = ap words_of (take_more zs i d l) ∙ push (take i zs) (get_or zs i d)
  where
    push : (xs : List ℤ) (x : ℤ) → words_of (xs ++ x ∷ []) ≡ words_of xs ++ (signed_decimal x ++ 32 ∷ [])
    push [] x = append-nil _
    push (y ∷ xs) x = ap (λ r. (signed_decimal y ++ 32 ∷ []) ++ r) (push xs x) ∙ sym (append_assoc (signed_decimal y ++ 32 ∷ []) _ _)

pub filled : (s t : Text) (bs : List ℕ) → s.bytes ≡ [] → length bs ≤ 128 → Appended s bs t → t.bytes ≡ bs
filled s t bs e n x = let z = ap length e in x.put (omega arith) ∙ ap (λ r. r ++ bs) e
