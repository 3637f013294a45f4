-- Numbers that ascend up to a limit, at most eight of them, are sets.
use Rattle.std.proofs.Common.{◌≡◌, Bool, true, false, leb, length, is_some, None, refl, ap}
use Rattle.std.proofs.lemmas.Bool.{and_parts, and_from, leb-true, le-leb, false≢true}
use Rattle.gate_set.specs.Ascending.{above}
use Rattle.gate_set.proofs.AscendingNumbers.{ascending_numbers_sets}
use Rattle.replay.specs.Asked.{answer, SetsAdmitted}

pub sets_admitted : SetsAdmitted
sets_admitted n S = (
  λ e. let (few, up) = and_parts (leb (length S) 8) (above 0 n S) e in ((ascending_numbers_sets n S).0 up, leb-true (length S) 8 few),
  λ s. and_from (leb (length S) 8) (above 0 n S) (le-leb (length S) 8 s.1) ((ascending_numbers_sets n S).1 s.0),
)

-- no refusal is an admission
pub admitted : (b : Bool) → None ≡ answer b → true ≡ b
admitted true e = refl
admitted false e = absurd (false≢true (ap is_some e))
