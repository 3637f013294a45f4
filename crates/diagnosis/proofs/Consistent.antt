-- The simulated values are the only consistent ones, if operands come before their gates.
use Rattle.std.proofs.Common.{◌≡◌, ℕ, zero, suc, ◌+◌, ◌<◌, Bool, true, false, cond, leb, List, [], ◌∷◌, ◌++◌, map, length, get_or, sym, refl, ap, ◌∙◌, subst, ⊎_elim, arith}
use Rattle.std.proofs.lemmas.List.{ext_get_or, get_or_append_left, get_or_push, length_push}
use Rattle.std.proofs.lemmas.Bool.{and_parts, leb-true, cases_eq}
use Rattle.circuit.specs.declared.gate.Signal.{Signal}
use Rattle.circuit.specs.declared.gate.Signal.TheVariants as signal
use Rattle.circuit.specs.Kinds.{gives}
use Rattle.std.specs.List.{list_all}
use Rattle.circuit.specs.Circuits.{Gate, there, fits, wired}
use Rattle.diagnosis.specs.Sets.{Marks}
use Rattle.diagnosis.specs.Explains.{Values, value, gate_value, simulate}
use Rattle.diagnosis.specs.ExplainingLaws.{GateValuesConsistent}
use Rattle.diagnosis.proofs.Simulated.{simulate_front, simulate_length}

-- ── operands that are there have the same value by any values that begin alike ──
pub value_front : (I m : ℕ) (inputs vs us : List Bool) → ((j : ℕ) → j < m → get_or vs j false ≡ get_or us j false) → (o : Signal) → there I m o ≡ true → value inputs vs o ≡ value inputs us o
value_front I m inputs vs us same (signal.Input i) t = refl
value_front I m inputs vs us same (signal.Gate zero) t = refl
value_front I m inputs vs us same (signal.Gate (suc g)) t = same g (leb-true (suc g) m (and_parts (leb 1 (suc g)) _ t).1)

pub values_front : (I m : ℕ) (inputs vs us : List Bool) → ((j : ℕ) → j < m → get_or vs j false ≡ get_or us j false) → (os : List Signal) → list_all (there I m) os ≡ true → map (value inputs vs) os ≡ map (value inputs us) os
values_front I m inputs vs us same [] t = refl
values_front I m inputs vs us same (o ∷ os) t =
    let first = value_front I m inputs vs us same o (and_parts (there I m o) _ t).0 in
    let rest = values_front I m inputs vs us same os (and_parts (there I m o) _ t).1 in
    λ i. first i ∷ rest i

gate_value_front : (I m : ℕ) (s : Marks) (w : Values) (inputs vs us : List Bool) (n : ℕ) → ((j : ℕ) → j < m → get_or vs j false ≡ get_or us j false) → (g : Gate) → fits I m g ≡ true → gate_value s w inputs n vs g ≡ gate_value s w inputs n us g
gate_value_front I m s w inputs vs us n same g f = ap (λ os. cond (s n) (w n) (gives g.kind os)) (values_front I m inputs vs us same g.operands (and_parts _ (list_all (there I m) g.operands) f).1)

module _ (I : ℕ) (s : Marks) (w : Values) (inputs : List Bool) where
  -- a gate that comes after n others, and after some more, has its own value by the values at the end
  simulated_own :
      (n : ℕ) (vs : List Bool) → length vs ≡ n → (before after : List Gate) (g : Gate) → wired I n (before ++ g ∷ after) ≡ true
      → (us : List Bool) → simulate s w inputs (suc n) vs (before ++ g ∷ after) ≡ us
      → (k : ℕ) → k ≡ n + length before → get_or us k false ≡ gate_value s w inputs (suc k) us g
  simulated_own n vs len [] after g f us is k e =
      let v : Bool = gate_value s w inputs (suc n) vs g in
      let front : (j : ℕ) → j < n → get_or vs j false ≡ get_or us j false = λ j lt. sym (simulate_front s w inputs (suc n) vs (g ∷ after) j (omega arith)) ∙ ap (λ l. get_or l j false) is in
      let here : get_or us n false ≡ v = ap (λ l. get_or l n false) (sym is) ∙ simulate_front s w inputs (suc (suc n)) (vs ++ v ∷ []) after n (omega (arith, length_push vs v)) ∙ get_or_push vs v false n len in
      let at : n ≡ k = omega arith in
      subst (λ (k : ℕ). get_or us k false ≡ gate_value s w inputs (suc k) us g) at (here ∙ gate_value_front I n s w inputs vs us (suc n) front g (and_parts (fits I n g) _ f).0)
  simulated_own n vs len (b ∷ before) after g f us is k e =
      let v : Bool = gate_value s w inputs (suc n) vs b in
      simulated_own (suc n) (vs ++ v ∷ []) (omega (arith, length_push vs v)) before after g (and_parts (fits I n b) _ f).1 us is k (omega arith)

  -- values that begin as simulated, and then have each gate's own value, are those simulated
  own_simulated :
      (n : ℕ) (vs : List Bool) → length vs ≡ n → (gs : List Gate) → wired I n gs ≡ true
      → (us : List Bool) → length us ≡ n + length gs → ((j : ℕ) → j < n → get_or vs j false ≡ get_or us j false)
      → ((before after : List Gate) (g : Gate) → before ++ g ∷ after ≡ gs → (k : ℕ) → k ≡ n + length before → get_or us k false ≡ gate_value s w inputs (suc k) us g)
      → us ≡ simulate s w inputs (suc n) vs gs
  own_simulated n vs len [] f us list_all front own = ext_get_or false us vs (omega arith) (λ j lt. sym (front j (omega arith)))
  own_simulated n vs len (g ∷ gs) f us list_all front own =
      let v : Bool = gate_value s w inputs (suc n) vs g in
      let here : get_or us n false ≡ v = own [] gs g refl n (omega arith) ∙ sym (gate_value_front I n s w inputs vs us (suc n) front g (and_parts (fits I n g) _ f).0) in
      own_simulated (suc n) (vs ++ v ∷ []) (omega (arith, length_push vs v)) gs (and_parts (fits I n g) _ f).1 us (omega arith)
      (λ j lt.
      ⊎_elim
      (λ last. get_or_push vs v false j (len ∙ sym last) ∙ sym here ∙ ap (λ i. get_or us i false) (sym last))
      (λ other. let lt' : j < n = below other lt in get_or_append_left vs (v ∷ []) false j (omega arith) ∙ front j lt')
      (cases_eq j n))
      (λ before after h e k q. own (g ∷ before) after h (ap (λ l. g ∷ l) e) k (omega arith))
    where
      below : {j : ℕ} → (j ≡ n → ⊥) → j < suc n → j < n
      below other lt = omega arith

pub gate_values_consistent : GateValuesConsistent
gate_values_consistent c f s w inputs vs = (
  λ e. record {
    one_each = ap length e ∙ simulate_length s w inputs 1 [] c.gates ∙ omega arith;
    each = λ before after g is.
        simulated_own c.inputs s w inputs 0 [] refl before after g (ap (λ gs. wired c.inputs 0 gs) is ∙ f) vs (ap (λ gs. simulate s w inputs 1 [] gs) is ∙ sym e) (length before) (omega arith);
  },
  λ con.
      own_simulated c.inputs s w inputs 0 [] refl c.gates f vs (con.one_each ∙ omega arith) (λ j lt. absurd (omega arith))
      (λ before after g is k e. let at : length before ≡ k = omega arith in subst (λ (k : ℕ). get_or vs k false ≡ gate_value s w inputs (suc k) vs g) at (con.each before after g is)),
)
