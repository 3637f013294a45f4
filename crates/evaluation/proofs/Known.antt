-- With one bit only at each input and each forced gate, each gate stands for its simulated value alone.
use Rattle.std.proofs.Common.{◌≡◌, ℕ, zero, suc, Bool, true, false, cond, List, [], ◌∷◌, ◌++◌, map, get_or, Some, None, unwrap_or, sym, refl, ap, ◌∙◌}
use Rattle.std.proofs.lemmas.List.{map_push}
use Rattle.circuit.specs.declared.gate.Signal.{Signal}
use Rattle.circuit.specs.declared.gate.Signal.TheVariants as signal
use Rattle.circuit.specs.Kinds.{gives}
use Rattle.circuit.specs.Circuits.{Gate}
use Rattle.diagnosis.specs.Sets.{Marks}
use Rattle.diagnosis.specs.Explains.{Values, value, computed, gate_value, simulate}
use Rattle.signal_value.specs.Possible.{only}
use Rattle.evaluation.specs.Gates.{image_of}
use Rattle.evaluation.specs.Evaluated.{standing, gate_stands, evaluate_from, forcing}
use Rattle.evaluation.specs.EvaluationLaws.{EvaluationOfBits}

only_at : (bs : List Bool) (n : ℕ) → get_or (map only bs) n (only false) ≡ only (get_or bs n false)
only_at [] n = refl
only_at (b ∷ bs) zero = refl
only_at (b ∷ bs) (suc n) = only_at bs n

pub standing_only : (inputs vs : List Bool) (o : Signal) → standing (map only inputs) (map only vs) o ≡ only (value inputs vs o)
standing_only inputs vs (signal.Input zero) = refl
standing_only inputs vs (signal.Input (suc i)) = only_at inputs i
standing_only inputs vs (signal.Gate zero) = refl
standing_only inputs vs (signal.Gate (suc g)) = only_at vs g

image_only : (f : List Bool → Bool) (bs : List Bool) → image_of f (map only bs) ≡ only (f bs)
image_only f [] = refl
image_only f (b ∷ bs) = image_only (λ cs. f (b ∷ cs)) bs

map_same : (inputs vs : List Bool) (os : List Signal) → map (standing (map only inputs) (map only vs)) os ≡ map only (map (value inputs vs) os)
map_same inputs vs [] = refl
map_same inputs vs (o ∷ os) = λ i. standing_only inputs vs o i ∷ map_same inputs vs os i

module _ (s : Marks) (w : Values) (inputs : List Bool) where
  gate_only : (n : ℕ) (vs : List Bool) (g : Gate) → gate_stands (forcing s w) (map only inputs) n (map only vs) g ≡ only (gate_value s w inputs n vs g)
  gate_only n vs g =
      ap (unwrap_or (forcing s w n)) (ap (image_of (gives g.kind)) (map_same inputs vs g.operands) ∙ image_only (gives g.kind) (map (value inputs vs) g.operands))
      ∙ by (s n)
    where
      by : (marked : Bool) → unwrap_or (cond marked (Some (only (w n))) None) (only (computed inputs vs g)) ≡ only (cond marked (w n) (computed inputs vs g))
      by true = refl
      by false = refl

  evaluate_only : (n : ℕ) (vs : List Bool) (gs : List Gate) → evaluate_from (forcing s w) (map only inputs) n (map only vs) gs ≡ map only (simulate s w inputs n vs gs)
  evaluate_only n vs [] = refl
  evaluate_only n vs (g ∷ gs) =
      ap (λ P. evaluate_from (forcing s w) (map only inputs) (suc n) (map only vs ++ P ∷ []) gs) (gate_only n vs g)
      ∙ ap (λ Vs. evaluate_from (forcing s w) (map only inputs) (suc n) Vs gs) (sym (map_push only vs (gate_value s w inputs n vs g)))
      ∙ evaluate_only (suc n) (vs ++ gate_value s w inputs n vs g ∷ []) gs

pub evaluation_of_bits : EvaluationOfBits
evaluation_of_bits c s w inputs = evaluate_only s w inputs 1 [] c.gates
