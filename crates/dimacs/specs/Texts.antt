-- Text that is put together word by word.
--   Appended   a text after these bytes, as far as there is room
--   words_of   signed numbers, each with a space behind it
use Rattle.std.specs.Prelude.{◌≡◌, ℕ, ◌+◌, ◌≤◌, List, [], ◌∷◌, ◌++◌, length, ℤ}
use Rattle.std.specs.List.{flat_map}
use Rattle.std.specs.Fmt.{signed_decimal}
use Rattle.arrayvec.specs.ArrayString.{ArrayString}

pub record Appended (s : ArrayString) (bs : List ℕ) (t : ArrayString) : Type 0 where
  pub put : length s.bytes + length bs ≤ 128 → t.bytes ≡ s.bytes ++ bs

abbrev pub words_of : List ℤ → List ℕ
words_of zs = flat_map (λ z. signed_decimal z ++ 32 ∷ []) zs
