-- Two tests of a small circuit that the same two gates explain, and no one choice of values forced on them.
use Rattle.std.proofs.Common.{◌≡◌, Bool, true, false, not, ◌&&◌, ◌||◌, eqb, refl}
use mathlib.Core.Bool.{beq, false≢true}
use Rattle.std.proofs.lemmas.Bool.{and_parts}
use Rattle.diagnosis.proofs.explaining.tests_need_own_values.Goals as goal

-- the value forced on m shows at z, in the one test as 1 and in the other as 0
z_shows_m : (m : Bool) → beq true (not (m || false)) && true ≡ true → beq false (not (m || false)) && true ≡ true → ⊥
z_shows_m true high low = false≢true high
z_shows_m false high low = false≢true low

pub returns : goal.returns
returns c = (
  ((λ g. false, refl), ((λ g. eqb g 1, refl), tt)),
  λ w high low. z_shows_m (w 1) (and_parts (beq false (w 2)) _ high).1 (and_parts (beq false (w 2)) _ low).1,
)
