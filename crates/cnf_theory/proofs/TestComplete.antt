-- A row that has a test's values makes the test's clauses hold.
use Rattle.std.proofs.Common.{◌≡◌, ℕ, suc, ◌+◌, ◌<◌, Bool, true, false, cond, eqb, List, [], ◌∷◌, ◌++◌, map, length, get_or, Some, None, Option, sym, refl, ap, ◌∙◌, add-zero, add-suc, suc-add, arith}
use mathlib.Core.Bool.{beq}
use Rattle.std.proofs.lemmas.List.{get_or_append_left, get_or_push, length_push}
use Rattle.std.proofs.lemmas.Bool.{and_parts}
use Rattle.circuit.specs.declared.gate.Signal.{Signal}
use Rattle.std.specs.List.{list_all}
use Rattle.circuit.specs.Kinds.{gives}
use Rattle.circuit.specs.Circuits.{Gate, Circuit, there, wired}
use Rattle.circuit.specs.Tests.{Test, FitsTest}
use Rattle.circuit.proofs.Wiring.{all_there_more}
use Rattle.diagnosis.specs.Explains.{value, computed, gate_value, simulate, values, agree, brings_out}
use Rattle.diagnosis.proofs.Simulated.{simulate_front, simulate_length}
use Rattle.diagnosis.proofs.Consistent.{values_front}
use Rattle.cnf_theory.specs.Literals.{Row, Holds}
use Rattle.cnf_theory.specs.Variables.{computed_variable, forced_variable, value_variable, signal_variable}
use Rattle.cnf_theory.specs.Gates.{function, gate_clauses}
use Rattle.cnf_theory.specs.Formula.{input_clauses, gates_clauses, output_clauses, test_clauses}
use Rattle.cnf_theory.proofs.Clauses.{holds_both, value_unit}
use Rattle.cnf_theory.proofs.Functions.{function_says, selection_complete}
use Rattle.cnf_theory.proofs.TestSound.{Known, signal_value, signal_values, gate_takes, takes_mapped}

-- a row has the values of a test under these marks and forced values, the test's variables coming after B
pub record TestRow (c : Circuit) (s w : ℕ → Bool) (t : Test) (ρ : Row) (B : ℕ) : Type 0 where
  pub inputs : (i : ℕ) → i < c.inputs → get_or t.inputs i false ≡ ρ (B + suc i)
  pub marks : (h : ℕ) → h < length c.gates → ρ (suc h) ≡ s (suc h)
  pub forced : (h : ℕ) → h < length c.gates → ρ (forced_variable B c.inputs (suc h)) ≡ w (suc h)
  pub gate_values : (h : ℕ) → h < length c.gates → get_or (values c s w t.inputs) h false ≡ ρ (value_variable B c.inputs (suc h))
  pub gate_functions : (h : ℕ) → h < length c.gates → ρ (computed_variable B c.inputs (suc h)) ≡ get_or (map (computed t.inputs (values c s w t.inputs)) c.gates) h false

module _ (c : Circuit) (s w : ℕ → Bool) (t : Test) (ρ : Row) (B : ℕ) (R : TestRow c s w t ρ B) where
  abbrev G : ℕ
  G = length c.gates

  abbrev I : ℕ
  I = c.inputs

  abbrev V : List Bool
  V = values c s w t.inputs

  known : Known ρ B I t.inputs R.inputs G V
  known = (simulate_length s w t.inputs 1 [] c.gates ∙ omega arith, R.gate_values)

  gates_complete : (gs : List Gate) (m : ℕ) (vs : List Bool) → m + length gs ≡ G → length vs ≡ m → wired I m gs ≡ true → V ≡ simulate s w t.inputs (suc m) vs gs → ((j : ℕ) → j < length gs → ρ (computed_variable B I (suc (m + j))) ≡ get_or (map (computed t.inputs V) gs) j false) → Holds ρ (gates_clauses B I (suc m) gs)
  gates_complete [] m vs mG vm f e ls = tt
  gates_complete (g ∷ gs) m vs mG vm f e ls =
      let n = suc m in
      let l = computed_variable B I n in
      let xs = map (signal_variable B I) g.operands in
      let fit = gate_takes I m g gs f in
      let v : Bool = gate_value s w t.inputs n vs g in
      let here : m < G = omega arith in
      let lis : ρ l ≡ computed t.inputs V g = ap (λ i. ρ (computed_variable B I (suc i))) (sym (add-zero m)) ∙ ls 0 (omega arith) in
      let operands : map (value t.inputs V) g.operands ≡ map ρ xs = signal_values ρ B I t.inputs R.inputs G V known g.operands (all_there_more I I m G g.operands (omega arith) (omega arith) fit.1) in
      let front : (j : ℕ) → j < m → get_or V j false ≡ get_or vs j false = λ j lt. ap (λ x. get_or x j false) e ∙ simulate_front s w t.inputs (suc (suc m)) (vs ++ v ∷ []) gs j (omega (arith, length_push vs v)) ∙ get_or_append_left vs (v ∷ []) false j (omega arith) in
      let zis : ρ (value_variable B I n) ≡ v = sym (R.gate_values m here) ∙ ap (λ x. get_or x m false) e ∙ simulate_front s w t.inputs (suc (suc m)) (vs ++ v ∷ []) gs m (omega (arith, length_push vs v)) ∙ get_or_push vs v false m vm in
      let lis' : ρ l ≡ computed t.inputs vs g = lis ∙ ap (gives g.kind) (values_front I m t.inputs V vs front g.operands fit.1) in
      let selected : cond (ρ n) (ρ (forced_variable B I n)) (ρ l) ≡ ρ (value_variable B I n) = (λ i. cond (R.marks m here i) (R.forced m here i) (lis' i)) ∙ sym zis in
      holds_both ρ (gate_clauses B I n g) _
      (holds_both ρ (function g.kind l xs) _ ((function_says ρ g.kind l xs (takes_mapped B I g fit.0)).1 (lis ∙ ap (gives g.kind) operands)) (selection_complete (ρ n) (ρ l) (ρ (forced_variable B I n)) (ρ (value_variable B I n)) selected))
      (gates_complete gs (suc m) (vs ++ v ∷ []) (omega arith) (length_push vs v ∙ omega arith) fit.2 e (λ j lt. ap (λ i. ρ (computed_variable B I (suc i))) (suc-add m j ∙ sym (add-suc m j)) ∙ ls (suc j) (omega arith)))

  outputs_complete : (os : List Signal) (ms : List (Option Bool)) → list_all (there I G) os ≡ true → agree t.inputs V os ms ≡ true → Holds ρ (output_clauses B I os ms)
  outputs_complete [] ms a e = tt
  outputs_complete (o ∷ os) [] a e = tt
  outputs_complete (o ∷ os) (None ∷ ms) a e = outputs_complete os ms (and_parts (there I G o) (list_all (there I G) os) a).1 e
  outputs_complete (o ∷ os) (Some b ∷ ms) a e =
      let p = and_parts (there I G o) (list_all (there I G) os) a in
      let q = and_parts (beq b (value t.inputs V o)) (agree t.inputs V os ms) e in
      (value_unit ρ b _ (beq-eq b _ q.0 ∙ signal_value ρ B I t.inputs R.inputs G V known o p.0), outputs_complete os ms p.1 q.1)
    where
      beq-eq : (x y : Bool) → beq x y ≡ true → x ≡ y
      beq-eq true true e = refl
      beq-eq true false e = sym e
      beq-eq false true e = e
      beq-eq false false e = refl

  inputs_complete : (n : ℕ) (bs : List Bool) → ((i : ℕ) → i < length bs → get_or bs i false ≡ ρ (B + (n + i))) → Holds ρ (input_clauses B n bs)
  inputs_complete n [] f = tt
  inputs_complete n (b ∷ bs) f = (value_unit ρ b _ (f 0 (omega arith) ∙ ap (λ k. ρ (B + k)) (add-zero n)), inputs_complete (suc n) bs (λ i lt. f (suc i) (omega arith) ∙ ap (λ k. ρ (B + k)) (add-suc n i ∙ sym (suc-add n i))))

  pub test_complete : wired I 0 c.gates ≡ true → list_all (there I G) c.outputs ≡ true → FitsTest c t → brings_out c s w t ≡ true → Holds ρ (test_clauses c B t)
  test_complete f o fit b =
      let e = fit.inputs in
      let a = (and_parts (eqb (length t.inputs) I) (agree t.inputs V c.outputs t.outputs) b).1 in
      holds_both ρ (input_clauses B 1 t.inputs ++ gates_clauses B I 1 c.gates) _
      (holds_both ρ (input_clauses B 1 t.inputs) _
      (inputs_complete 1 t.inputs (λ i lt. R.inputs i (omega arith) ∙ ap (λ k. ρ (B + k)) (omega arith)))
      (gates_complete c.gates 0 [] (omega arith) refl f refl (λ j lt. ap (λ i. ρ (computed_variable B I (suc i))) (omega arith) ∙ R.gate_functions j lt)))
      (outputs_complete c.outputs t.outputs o a)
