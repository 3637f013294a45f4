-- The walk over the gates: one gate more, and all of them.
use Rattle.std.proofs.Common.{◌≡◌, ℕ, suc, ◌+◌, ◌<◌, ◌≤◌, List, [], ◌∷◌, ◌++◌, map, length, get_or, take, drop, set, sym, ap, ◌∙◌, add-one}
use Rattle.std.proofs.lemmas.List.{at_drop_more, at_drop_all, take_more_set, map_push}
use Rattle.circuit.specs.declared.gate.Gate.{Gate as HeldGate}
use Rattle.circuit.specs.Circuits.{gate_of}
use Rattle.signal_value.specs.Possible.{Possible}
use Rattle.evaluation.specs.Evaluated.{Forcing, gate_stands, evaluate_from}

module _ {L : Type 0} (st : L → Possible) (F : Forcing) (inputs : List Possible) where
  pub gate_more :
      (values : List L) (gates : List HeldGate) (i : ℕ) (value : L) (gate : HeldGate) → i < length gates → i < length values → gate ≡ get_or gates i gate
      → (m : ℕ) → m ≡ i → st value ≡ gate_stands F inputs (i + 1) (map st (take m values)) (gate_of gate)
      → evaluate_from F inputs (suc (i + 1)) (map st (take (i + 1) (set values i value))) (map gate_of (drop (i + 1) gates))
      ≡ evaluate_from F inputs (suc i) (map st (take i values)) (map gate_of (drop i gates))
  gate_more values gates i value gate lt room is m same stands =
      let Vs : List Possible = map st (take i values) in
      let rest : List HeldGate = drop (i + 1) gates in
      let step : evaluate_from F inputs (suc i) Vs (map gate_of (drop i gates)) ≡ evaluate_from F inputs (suc (suc i)) (Vs ++ gate_stands F inputs (suc i) Vs (gate_of (get_or gates i gate)) ∷ []) (map gate_of rest) = at_drop_more (λ l. evaluate_from F inputs (suc i) Vs (map gate_of l)) gates i gate lt in
      let next : map st (take (i + 1) (set values i value)) ≡ Vs ++ st value ∷ [] = ap (map st) (take_more_set values i value room) ∙ map_push st (take i values) value in
      (λ j. evaluate_from F inputs (suc (add-one i j)) (next j) (map gate_of rest))
      ∙ ap (λ P. evaluate_from F inputs (suc (suc i)) (Vs ++ P ∷ []) (map gate_of rest)) (stands ∙ (λ j. gate_stands F inputs (add-one i j) (map st (take (same j) values)) (gate_of (is j))))
      ∙ sym step

  pub gates_all : (values : List L) (gates : List HeldGate) (i n : ℕ) → length gates ≤ i → i ≡ n → evaluate_from F inputs (suc i) (map st (take i values)) (map gate_of (drop i gates)) ≡ map st (take n values)
  gates_all values gates i n h e = at_drop_all (λ l. evaluate_from F inputs (suc i) (map st (take i values)) (map gate_of l)) gates i h ∙ ap (λ k. map st (take k values)) e
