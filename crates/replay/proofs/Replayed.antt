-- The evaluator's bits, with a byte forced on a set, are the simulated ones.
use Rattle.std.proofs.Common.{◌≡◌, ℕ, Bool, false, List, [], ◌∷◌, map, sym, refl, ap, ◌∙◌}
use Rattle.circuit.specs.Circuits.{Circuit}
use Rattle.diagnosis.specs.Sets.{member}
use Rattle.diagnosis.specs.Explains.{values}
use Rattle.diagnosis.specs.Readings.{forced_by}
use Rattle.signal_value.specs.Possible.{Possible, only, both}
use Rattle.evaluation.specs.Evaluated.{evaluated}
use Rattle.evaluation.proofs.Known.{evaluation_of_bits}
use Rattle.evaluate.specs.declared.forced.Forced.{Forced}
use Rattle.evaluate.specs.Forced.{lane_forcing}
use Rattle.replay.specs.ForcedSets.{forced_bits}
use Rattle.replay.proofs.Forcings.{forced_bits_lem}

abbrev bit : Possible → Bool
bit (only b) = b
bit both = false

bits_back : (bs : List Bool) → map bit (map only bs) ≡ bs
bits_back [] = refl
bits_back (b ∷ bs) = ap (λ l. b ∷ l) (bits_back bs)

-- lists of known bits that stand for the same are the same
pub same_known : (vs bs : List Bool) → map only vs ≡ map only bs → vs ≡ bs
same_known vs bs e = sym (bits_back vs) ∙ ap (map bit) e ∙ bits_back bs

pub replayed_bits :
    (c : Circuit) (inputs : List Bool) (S : List ℕ) (byte : ℕ) (vs : List Bool) (fs : List (Forced Bool)) → fs ≡ forced_bits S byte
    → map only vs ≡ evaluated c (lane_forcing (λ (b : Bool) (_ : ℕ). only b) 0 fs) (map only inputs) → vs ≡ values c (member S) (forced_by S byte) inputs
replayed_bits c inputs S byte vs fs same e =
    same_known vs (values c (member S) (forced_by S byte) inputs)
    (e ∙ ap (λ l. evaluated c (lane_forcing (λ (b : Bool) (_ : ℕ). only b) 0 l) (map only inputs)) same
    ∙ ap (λ F. evaluated c F (map only inputs)) (forced_bits_lem S byte) ∙ evaluation_of_bits c (member S) (forced_by S byte) inputs)
