-- Numbers that ascend.
--   above                  whether numbers ascend, each more than the one before, up to n
--   AscendingNumbersSets   such numbers, from 1 on, are just the sets of the gates 1 to n
use Rattle.std.specs.Prelude.{◌≡◌, ℕ, Bool, true, ◌&&◌, ◌↔◌, List, [], ◌∷◌, nat_le, nat_lt}
use Rattle.diagnosis.specs.Sets.{IsSet}

abbrev pub above : ℕ → ℕ → List ℕ → Bool
above last n [] = true
above last n (x ∷ xs) = nat_lt last x && (nat_le x n && above x n xs)

abbrev pub AscendingNumbersSets : Type 0
AscendingNumbersSets = (n : ℕ) (S : List ℕ) → (above 0 n S ≡ true) ↔ IsSet n S
