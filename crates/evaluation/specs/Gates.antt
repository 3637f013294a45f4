-- What a gate may be, if its operands stand for one bit or for both.
--   image_of   the bits that a function of several bits gives, one of each operand's bits taken
--   Among      bits, one of each operand's
use Rattle.std.specs.Prelude.{◌≡◌, Bool, true, false, List, [], ◌∷◌}
use Rattle.signal_value.specs.Possible.{Possible, only, both, includes, either}

abbrev pub image_of : (List Bool → Bool) → List Possible → Possible
image_of f [] = only (f [])
image_of f (only p ∷ Ps) = image_of (λ bs. f (p ∷ bs)) Ps
image_of f (both ∷ Ps) = either (image_of (λ bs. f (false ∷ bs)) Ps) (image_of (λ bs. f (true ∷ bs)) Ps)

abbrev pub Among : List Possible → List Bool → Type 0
Among [] [] = Unit {0}
Among [] (b ∷ bs) = ⊥
Among (P ∷ Ps) [] = ⊥
Among (P ∷ Ps) (b ∷ bs) = (includes P b ≡ true) × Among Ps bs
