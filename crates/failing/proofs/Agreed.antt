-- Whether outputs agree with what was measured, told pair by pair.
use Rattle.std.proofs.Common.{◌≡◌, suc, Bool, true, false, ◌&&◌, List, [], ◌∷◌, length, Option, refl, ap, ◌∙◌, arith}
use Rattle.std.specs.List.{zip, list_all}
use Rattle.circuit.specs.declared.gate.Signal.{Signal}
use Rattle.diagnosis.specs.Explains.{value, agrees, agree}

module _ (inputs vs : List Bool) where
  pub agree_lengths : (os : List Signal) (ms : List (Option Bool)) → (length os ≡ length ms → ⊥) → agree inputs vs os ms ≡ false
  agree_lengths [] [] h = absurd (h refl)
  agree_lengths [] (m ∷ ms) h = refl
  agree_lengths (o ∷ os) [] h = refl
  agree_lengths (o ∷ os) (m ∷ ms) h = ap (λ t. agrees m (value inputs vs o) && t) (agree_lengths os ms (λ e. h (ap suc e))) ∙ and_no (agrees m (value inputs vs o))
    where
      and_no : (b : Bool) → (b && false) ≡ false
      and_no true = refl
      and_no false = refl

  pub agree_pairs : (os : List Signal) (ms : List (Option Bool)) → length os ≡ length ms → list_all (λ p. agrees p.1 (value inputs vs p.0)) (zip os ms) ≡ agree inputs vs os ms
  agree_pairs [] [] h = refl
  agree_pairs [] (m ∷ ms) h = absurd (omega arith)
  agree_pairs (o ∷ os) [] h = absurd (omega arith)
  agree_pairs (o ∷ os) (m ∷ ms) h = ap (λ t. agrees m (value inputs vs o) && t) (agree_pairs os ms (omega arith))
