-- Positions counted from one more.
use Rattle.std.proofs.Common.{◌≡◌, ℕ, ◌+◌, Bool, true, false, cond, List, [], ◌∷◌, Some, refl}
use Rattle.std.specs.List.{position_from}
use Rattle.std.specs.Option.{option_map}

pub position_from_next : {X : Type 0} (p : X → Bool) (k : ℕ) (xs : List X) → position_from p (k + 1) xs ≡ option_map (λ i. i + 1) (position_from p k xs)
position_from_next p k [] = refl
position_from_next p k (x ∷ xs) = first (p x) (position_from_next p (k + 1) xs)
  where
    first : (t : Bool) → position_from p (k + 1 + 1) xs ≡ option_map (λ i. i + 1) (position_from p (k + 1) xs) → cond t (Some (k + 1)) (position_from p (k + 1 + 1) xs) ≡ option_map (λ i. i + 1) (cond t (Some k) (position_from p (k + 1) xs))
    first true e = refl
    first false e = e
