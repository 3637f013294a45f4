-- What is forced on a set, gate by gate, and the loops that list it.
use Rattle.std.proofs.Common.{◌≡◌, ℕ, ◌+◌, ◌/◌, ◌%◌, ◌<◌, Bool, true, false, cond, ◌||◌, eqb, List, [], ◌∷◌, length, get_or, drop, Some, None, sym, refl}
use Rattle.std.specs.Option.{option_map}
use Rattle.std.proofs.lemmas.List.{at_drop_more}
use Rattle.diagnosis.specs.Sets.{member}
use Rattle.diagnosis.specs.Readings.{forced_by}
use Rattle.signal_value.specs.declared.doubtful.Doubtful.{Doubtful}
use Rattle.signal_value.specs.declared.doubtful.Doubtful.TheVariants.{Unknown}
use Rattle.signal_value.specs.Possible.{only, both}
use Rattle.signal_value.specs.Kept.{known}
use Rattle.evaluation.specs.Evaluated.{forcing}
use Rattle.evaluate.specs.Forced.{forced_at, lane_forcing}
use Rattle.replay.specs.Written.{unknown}
use Rattle.replay.specs.ForcedSets.{forced_bits, forced_unknown}

-- ── in a lane ──
bits_at : (S : List ℕ) (byte n : ℕ) → option_map only (forced_at (forced_bits S byte) n) ≡ forcing (member S) (forced_by S byte) n
bits_at [] byte n = refl
bits_at (x ∷ S) byte n = by (eqb n x) (bits_at S (byte / 2) n)
  where
    by : (t : Bool) → option_map only (forced_at (forced_bits S (byte / 2)) n) ≡ forcing (member S) (forced_by S (byte / 2)) n → option_map only (cond t (Some (eqb (byte % 2) 1)) (forced_at (forced_bits S (byte / 2)) n)) ≡ cond (t || member S n) (Some (only (cond t (eqb (byte % 2) 1) (forced_by S (byte / 2) n)))) None
    by true later = refl
    by false later = later

pub forced_bits_lem : (S : List ℕ) (byte : ℕ) → lane_forcing (λ (b : Bool) (_ : ℕ). only b) 0 (forced_bits S byte) ≡ forcing (member S) (forced_by S byte)
forced_bits_lem S byte = λ j n. bits_at S byte n j

unknown_at : (S : List ℕ) (n : ℕ) → option_map known (forced_at (forced_unknown S) n) ≡ unknown S n
unknown_at [] n = refl
unknown_at (x ∷ S) n = by (eqb n x) (unknown_at S n)
  where
    by : (t : Bool) → option_map known (forced_at (forced_unknown S) n) ≡ unknown S n → option_map known (cond t (Some Unknown) (forced_at (forced_unknown S) n)) ≡ cond (t || member S n) (Some both) None
    by true later = refl
    by false later = later

pub forced_unknown_lem : (S : List ℕ) → lane_forcing (λ (v : Doubtful) (_ : ℕ). known v) 0 (forced_unknown S) ≡ unknown S
forced_unknown_lem S = λ j n. unknown_at S n j

-- ── a list of forced values, after k of them ──
pub bits_more : (S : List ℕ) (k d rest : ℕ) → k < length S → (record { gate = get_or S k d; value = eqb (rest % 2) 1 }) ∷ forced_bits (drop (k + 1) S) (rest / 2) ≡ forced_bits (drop k S) rest
bits_more S k d rest lt = sym (at_drop_more (λ l. forced_bits l rest) S k d lt)

pub unknown_more : (S : List ℕ) (k d : ℕ) → k < length S → (record { gate = get_or S k d; value = Unknown }) ∷ forced_unknown (drop (k + 1) S) ≡ forced_unknown (drop k S)
unknown_more S k d lt = sym (at_drop_more forced_unknown S k d lt)
