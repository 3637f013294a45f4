-- An output that is settled at a bit has that bit, whatever is forced on the unknown gates.
use Rattle.std.proofs.Common.{◌≡◌, ℕ, Bool, true, false, cond, List, [], ◌∷◌, map, get_or, Some, None, sym, refl, ap, ◌∙◌, arith, MatchOption}
use Rattle.std.proofs.lemmas.List.{get_or-map}
use Rattle.circuit.specs.declared.gate.Signal.TheVariants as signal
use Rattle.circuit.specs.declared.gate.Signal.{Signal}
use Rattle.diagnosis.specs.Sets.{member}
use Rattle.diagnosis.specs.Explains.{Values, value, values}
use Rattle.signal_value.specs.Possible.{Possible, only, both, includes}
use Rattle.signal_value.specs.Kept.{known, byte_of}
use Rattle.signal_value.proofs.Included.{beq_refl, beq_same}
use Rattle.evaluation.specs.Gates.{Among}
use Rattle.evaluation.specs.Evaluated.{standing, evaluated}
use Rattle.evaluation.specs.EvaluationLaws.{ForcedAmong}
use Rattle.evaluation.proofs.Covered.{signal_among, evaluation_covers}
use Rattle.replay.specs.Written.{bit_byte, unknown, settled}
use Rattle.evaluate.specs.declared.forced.Forced.{Forced}
use Rattle.evaluate.specs.Forced.{lane_forcing}
use Rattle.replay.specs.ForcedSets.{forced_unknown}
use Rattle.replay.proofs.Forcings.{forced_unknown_lem}
use Rattle.circuit.specs.Circuits.{Circuit}
use Rattle.signal_value.specs.declared.doubtful.Doubtful.{Doubtful}
use Rattle.replay.specs.SettledLaw.{SettledHolds}

known_among : (bs : List Bool) → Among (map only bs) bs
known_among [] = tt
known_among (b ∷ bs) = (beq_refl b, known_among bs)

unknown_among : (S : List ℕ) (w : Values) → ForcedAmong (unknown S) (member S) w
unknown_among S w n = by (member S n)
  where
    by : (t : Bool) → MatchOption (cond t (Some both) None) (t ≡ false) (λ P. (t ≡ true) × (includes P (w n) ≡ true))
    by true = (refl, refl)
    by false = refl

-- a byte of a known bit
byte_known : (P : Possible) (b : Bool) → byte_of P ≡ bit_byte b → P ≡ only b
byte_known (only true) true e = refl
byte_known (only true) false e = absurd (omega arith)
byte_known (only false) true e = absurd (omega arith)
byte_known (only false) false e = refl
byte_known both true e = absurd (omega arith)
byte_known both false e = absurd (omega arith)

pub settled_holds : SettledHolds
settled_holds c inputs S j b lt is w =
    let o : Signal = get_or c.outputs j (signal.Input 0) in
    let vs : List Bool = values c (member S) w inputs in
    let P : Possible = standing (map only inputs) (evaluated c (unknown S) (map only inputs)) o in
    let known-here : P ≡ only b = byte_known P b (sym (get_or-map (λ s. byte_of (standing (map only inputs) (evaluated c (unknown S) (map only inputs)) s)) c.outputs j (signal.Input 0) 2 lt) ∙ is) in
    let covered : includes P (value inputs vs o) ≡ true = signal_among (map only inputs) inputs (known_among inputs) (evaluated c (unknown S) (map only inputs)) vs (evaluation_covers c (unknown S) (map only inputs) (member S) w inputs (known_among inputs) (unknown_among S w)) o in
    sym (beq_same b (value inputs vs o) (ap (λ Q. includes Q (value inputs vs o)) (sym known-here) ∙ covered))

-- the bytes of the outputs, from what the evaluator finds
pub settled_bytes :
    (c : Circuit) (inputs : List Bool) (S : List ℕ) (outs : List Signal) (As Vs : List Possible) (fs : List (Forced Doubtful))
    → outs ≡ c.outputs → As ≡ map only inputs → fs ≡ forced_unknown S → Vs ≡ evaluated c (lane_forcing (λ (v : Doubtful) (_ : ℕ). known v) 0 fs) As
    → map (λ o. byte_of (standing As Vs o)) outs ≡ settled c inputs S
settled_bytes c inputs S outs As Vs fs shown applied forced found =
    let Vs-are : Vs ≡ evaluated c (unknown S) (map only inputs) =
    found ∙ (λ j. evaluated c (lane_forcing (λ (v : Doubtful) (_ : ℕ). known v) 0 (forced j)) (applied j)) ∙ ap (λ F. evaluated c F (map only inputs)) (forced_unknown_lem S) in
    λ j. map (λ o. byte_of (standing (applied j) (Vs-are j) o)) (shown j)
