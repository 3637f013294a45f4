-- Which bits are included: of one bit only, of one or the other, and that these decide the whole.
use Rattle.std.proofs.Common.{◌≡◌, Bool, true, false, not, ◌||◌, sym, refl, ap, ◌∙◌}
use mathlib.Core.Bool.{beq, false≢true}
use Rattle.std.proofs.lemmas.Bool.{or_left, or_right}
use Rattle.signal_value.specs.Possible.{Possible, only, both, includes, either}

pub beq_refl : (b : Bool) → beq b b ≡ true
beq_refl true = refl
beq_refl false = refl

pub beq_same : (a b : Bool) → beq a b ≡ true → a ≡ b
beq_same true true e = refl
beq_same true false e = absurd (false≢true e)
beq_same false true e = absurd (false≢true e)
beq_same false false e = refl

pub same_beq : (a b : Bool) → a ≡ b → beq a b ≡ true
same_beq a b e = ap (λ x. beq a x) (sym e) ∙ beq_refl a

pub includes_either : (P Q : Possible) (x : Bool) → includes (either P Q) x ≡ (includes P x || includes Q x)
includes_either both Q x = refl
includes_either (only p) both x = or-true (beq p x)
  where
    or-true : (b : Bool) → true ≡ (b || true)
    or-true true = refl
    or-true false = refl
includes_either (only true) (only true) true = refl
includes_either (only true) (only true) false = refl
includes_either (only true) (only false) true = refl
includes_either (only true) (only false) false = refl
includes_either (only false) (only true) true = refl
includes_either (only false) (only true) false = refl
includes_either (only false) (only false) true = refl
includes_either (only false) (only false) false = refl

pub either_left : (P Q : Possible) (x : Bool) → includes P x ≡ true → includes (either P Q) x ≡ true
either_left P Q x e = includes_either P Q x ∙ or_left _ _ e

pub either_right : (P Q : Possible) (x : Bool) → includes Q x ≡ true → includes (either P Q) x ≡ true
either_right P Q x e = includes_either P Q x ∙ or_right _ _ e

other_bit : (b : Bool) → beq b (not b) ≡ true → ⊥
other_bit true e = false≢true e
other_bit false e = false≢true e

pub same_bits : (P Q : Possible) → ((x : Bool) → includes P x ≡ true → includes Q x ≡ true) → ((x : Bool) → includes Q x ≡ true → includes P x ≡ true) → P ≡ Q
same_bits (only p) (only q) f g = ap only (sym (beq_same q p (f p (beq_refl p))))
same_bits (only p) both f g = absurd (other_bit p (g (not p) refl))
same_bits both (only q) f g = absurd (other_bit q (f (not q) refl))
same_bits both both f g = refl
