-- A byte made of the values forced on a set forces those values.
use Rattle.std.proofs.Common.{◌≡◌, ℕ, ◌+◌, ◌*◌, ◌/◌, ◌%◌, Bool, true, false, cond, eqb, List, [], ◌∷◌, sym, ap, ◌∙◌, ⊎_elim, arith}
use mathlib.Core.Bool.{false≢true}
use Rattle.std.proofs.lemmas.Bool.{eqb-true, eq-eqb, ne_eqb, cases_Bool, cond-true, cond-false, or_cases}
use Rattle.diagnosis.specs.Sets.{member}
use Rattle.diagnosis.specs.Explains.{Values}
use Rattle.diagnosis.specs.Readings.{reading, forced_by, ReadingsBringOut}
use Rattle.diagnosis.proofs.Simulated.{brings_forced}

lowest_bit : (b : Bool) (r : ℕ) → eqb ((cond b 1 0 + 2 * r) % 2) 1 ≡ b
lowest_bit true r = eq-eqb _ 1 (omega arith)
lowest_bit false r = ne_eqb _ 1 (λ e. omega arith)

higher_bits : (b : Bool) (r : ℕ) → (cond b 1 0 + 2 * r) / 2 ≡ r
higher_bits true r = omega arith
higher_bits false r = omega arith

pub forced_by_reading : (S : List ℕ) (w : Values) (g : ℕ) → member S g ≡ true → forced_by S (reading S w) g ≡ w g
forced_by_reading [] w g m = absurd (false≢true m)
forced_by_reading (x ∷ S) w g m =
    ⊎_elim
    (λ t. cond-true (eqb g x) _ _ t ∙ lowest_bit (w x) _ ∙ ap w (sym (eqb-true g x t)))
    (λ f.
    cond-false (eqb g x) _ _ f
    ∙ ap (λ b. forced_by S b g) (higher_bits (w x) (reading S w))
    ∙ forced_by_reading S w g (⊎_elim (λ u. absurd (false≢true (sym f ∙ u))) (λ r. r) (or_cases (eqb g x) _ m)))
    (cases_Bool (eqb g x))

pub readings_bring_out : ReadingsBringOut
readings_bring_out c S w t = brings_forced c (member S) w (forced_by S (reading S w)) t (λ g m. sym (forced_by_reading S w g m))
