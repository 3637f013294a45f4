-- Bytes that are written one after another at the front of a buffer, at place k.
use Rattle.std.proofs.Common.{◌≡◌, ℕ, ◌+◌, ◌<◌, ◌≤◌, Bool, true, false, List, [], ◌∷◌, ◌++◌, map, length, get_or, take, drop, set, sym, refl, ap, ◌∙◌, arith}
use mir.Val.{bool_byte}
use Rattle.std.proofs.lemmas.List.{append_assoc, length-map, length-take-le, drop_more, set_at, map_more, take_all}
use Rattle.replay.specs.Written.{bit_byte, written}

pub byte_of_bit : (b : Bool) → bool_byte b ≡ bit_byte b
byte_of_bit true = refl
byte_of_bit false = refl

module _ {A : Type 0} (f : A → ℕ) (xs : List A) (entry : List ℕ) where
  pub written_more : (k : ℕ) (d : A) (y : ℕ) → k < length xs → k < length entry → y ≡ f (get_or xs k d) → set (map f (take k xs) ++ drop k entry) k y ≡ map f (take (k + 1) xs) ++ drop (k + 1) entry
  written_more k d y lt room is =
      let P : List ℕ = map f (take k xs) in
      let R : List ℕ = drop (k + 1) entry in
      let long : length P ≡ k = length-map (take k xs) f ∙ length-take-le k xs (omega arith) in
      ap (λ l. set (P ++ l) k y) (drop_more entry k 0 room)
      ∙ set_at P (get_or entry k 0) R y k long
      ∙ ap (λ z. P ++ z ∷ R) is
      ∙ sym (append_assoc P (f (get_or xs k d) ∷ []) R)
      ∙ ap (λ l. l ++ R) (sym (map_more f xs k d lt))

  pub written_all : (k : ℕ) → length xs ≤ k → k ≤ length xs → map f (take k xs) ++ drop k entry ≡ written (map f xs) entry
  written_all k h g =
      let same : k ≡ length (map f xs) = omega (arith, length-map xs f) in
      ap (λ l. map f l ++ drop k entry) (take_all k xs h) ∙ ap (λ n. map f xs ++ drop n entry) same
