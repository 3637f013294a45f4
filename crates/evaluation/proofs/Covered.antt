-- The value of each gate is among the bits that the gate stands for.
use Rattle.std.proofs.Common.{◌≡◌, ℕ, zero, suc, Bool, true, false, List, [], ◌∷◌, ◌++◌, map, get_or, Some, None, Option, unwrap_or, refl, ap, ◌∙◌, MatchOption}
use Rattle.std.proofs.lemmas.Bool.{cond-true, cond-false}
use Rattle.circuit.specs.declared.gate.Signal.{Signal}
use Rattle.circuit.specs.declared.gate.Signal.TheVariants as signal
use Rattle.circuit.specs.Kinds.{gives}
use Rattle.circuit.specs.Circuits.{Gate}
use Rattle.diagnosis.specs.Sets.{Marks}
use Rattle.diagnosis.specs.Explains.{Values, value, computed, gate_value, simulate}
use Rattle.signal_value.specs.Possible.{Possible, only, includes}
use Rattle.evaluation.specs.Gates.{Among}
use Rattle.evaluation.specs.Evaluated.{Forcing, standing, computed_stands, gate_stands, evaluate_from}
use Rattle.evaluation.specs.EvaluationLaws.{ForcedAmong, EvaluationCovers}
use Rattle.evaluation.proofs.GateImages.{image_every}

-- what stands at a place is among what stands for it; past the end both are 0
pub among_at : (Ps : List Possible) (bs : List Bool) → Among Ps bs → (n : ℕ) → includes (get_or Ps n (only false)) (get_or bs n false) ≡ true
among_at [] [] a n = refl
among_at [] (b ∷ bs) a n = absurd a
among_at (P ∷ Ps) [] a n = absurd a
among_at (P ∷ Ps) (b ∷ bs) a zero = a.0
among_at (P ∷ Ps) (b ∷ bs) a (suc n) = among_at Ps bs a.1 n

among_push : (Ps : List Possible) (bs : List Bool) (P : Possible) (b : Bool) → Among Ps bs → includes P b ≡ true → Among (Ps ++ P ∷ []) (bs ++ b ∷ [])
among_push [] [] P b a e = (e, tt)
among_push [] (c ∷ bs) P b a e = absurd a
among_push (Q ∷ Ps) [] P b a e = absurd a
among_push (Q ∷ Ps) (c ∷ bs) P b a e = (a.0, among_push Ps bs P b a.1 e)

module _ (Ps : List Possible) (inputs : List Bool) (given : Among Ps inputs) where
  pub signal_among : (Vs : List Possible) (vs : List Bool) → Among Vs vs → (o : Signal) → includes (standing Ps Vs o) (value inputs vs o) ≡ true
  signal_among Vs vs a (signal.Input zero) = refl
  signal_among Vs vs a (signal.Input (suc i)) = among_at Ps inputs given i
  signal_among Vs vs a (signal.Gate zero) = refl
  signal_among Vs vs a (signal.Gate (suc g)) = among_at Vs vs a g

  signals_among : (Vs : List Possible) (vs : List Bool) → Among Vs vs → (os : List Signal) → Among (map (standing Ps Vs) os) (map (value inputs vs) os)
  signals_among Vs vs a [] = tt
  signals_among Vs vs a (o ∷ os) = (signal_among Vs vs a o, signals_among Vs vs a os)

  gate_among :
      (F : Forcing) (s : Marks) (w : Values) (n : ℕ) → MatchOption (F n) (s n ≡ false) (λ P. (s n ≡ true) × (includes P (w n) ≡ true))
      → (Vs : List Possible) (vs : List Bool) → Among Vs vs → (g : Gate) → includes (gate_stands F Ps n Vs g) (gate_value s w inputs n vs g) ≡ true
  gate_among F s w n f Vs vs a g = by (F n) f
    where
      by : (o : Option Possible) → MatchOption o (s n ≡ false) (λ P. (s n ≡ true) × (includes P (w n) ≡ true)) → includes (unwrap_or o (computed_stands Ps Vs g)) (gate_value s w inputs n vs g) ≡ true
      by None e = ap (includes (computed_stands Ps Vs g)) (cond-false (s n) (w n) (computed inputs vs g) e) ∙ image_every (gives g.kind) (map (standing Ps Vs) g.operands) (map (value inputs vs) g.operands) (signals_among Vs vs a g.operands)
      by (Some P) e = ap (includes P) (cond-true (s n) (w n) (computed inputs vs g) e.0) ∙ e.1

  evaluate_among :
      (F : Forcing) (s : Marks) (w : Values) → ForcedAmong F s w → (n : ℕ) (Vs : List Possible) (vs : List Bool) → Among Vs vs → (gs : List Gate)
      → Among (evaluate_from F Ps n Vs gs) (simulate s w inputs n vs gs)
  evaluate_among F s w f n Vs vs a [] = a
  evaluate_among F s w f n Vs vs a (g ∷ gs) =
      evaluate_among F s w f (suc n) (Vs ++ gate_stands F Ps n Vs g ∷ []) (vs ++ gate_value s w inputs n vs g ∷ [])
      (among_push Vs vs (gate_stands F Ps n Vs g) (gate_value s w inputs n vs g) a (gate_among F s w n (f n) Vs vs a g)) gs

pub evaluation_covers : EvaluationCovers
evaluation_covers c F Ps s w inputs a f = evaluate_among Ps inputs a F s w f 1 [] [] tt c.gates
