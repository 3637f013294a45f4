-- A test's clauses, one output more at a time, and how many they are; and what is known of a circuit and of a test that are held.
use Rattle.std.proofs.Common.{◌≡◌, ℕ, suc, ◌+◌, ◌<◌, ◌≤◌, Bool, cond, is_some, Some, None, ◌⊎◌, ⊎_elim, List, [], ◌∷◌, ◌++◌, map, length, get_or, take, vec_items, vec_len, Option, sym, refl, ap, ◌∙◌, subst, append_assoc, append-nil, add-zero, arith, length-append, length-take}
use Rattle.std.specs.List.{AllByRecursion}
use Rattle.std.proofs.lemmas.List.{take_more, length-take-le, length-map}
use Rattle.inline_list.proofs.Few.{listed_few}
use Rattle.circuit.specs.declared.gate.Signal.{Signal}
use Rattle.circuit.specs.declared.gate.Gate.{Gate as HeldGate}
use Rattle.circuit.specs.declared.circuit.Circuit.{Circuit as HeldCircuit}
use Rattle.circuit.specs.Circuits.{Circuit, Sound, gate_of, wired, there}
use Rattle.circuit.specs.Held.{circuit_of}
use Rattle.std.specs.List.{list_all}
use Rattle.circuit.specs.Tests.{Test}
use Rattle.testlog.specs.declared.test.Test.{Test as HeldTest}
use Rattle.testlog.specs.Held.{test_of}
use Rattle.cnf_theory.specs.Literals.{signed, Clause}
use Rattle.cnf_theory.specs.Variables.{base}
use Rattle.cnf_theory.specs.Formula.{input_clauses, gates_clauses, output_clauses, test_clauses, tests_clauses}
use Rattle.cnf.specs.Code.{Near, Fair}
use Rattle.std.proofs.lemmas.List.Sums.{sum_by-cons}
use Rattle.cnf.specs.Counted.{gates_size, outputs_size}
use Rattle.cnf.proofs.Pieces.{all_near, all_fair, map_more, gates_length, gates_few}

-- ── what is held ──
gates_held : (c : HeldCircuit) → length (circuit_of c).gates ≡ vec_len c.gates
gates_held c = length-map (vec_items c.gates) gate_of ∙ sym c.gates.ok.0

pub sound_held : (c : HeldCircuit) → Sound (circuit_of c)
sound_held c =
    let g = gates_held c in
    let o : length (circuit_of c).outputs ≡ vec_len c.outputs = sym c.outputs.ok.0 in
    let a = c.few_gates in
    let b = c.few_outputs in
    record {
      few_inputs = c.few_inputs;
      few_gates = omega arith;
      few_outputs = omega arith;
      in_order = c.in_order;
      shown = ap (λ n. list_all (there c.inputs n) (vec_items c.outputs)) g ∙ c.shown;
    }

pub gates_fair : (c : HeldCircuit) (gs : List HeldGate) → map gate_of gs ≡ (circuit_of c).gates → AllByRecursion Fair gs × (length gs ≤ 256)
gates_fair c gs e =
    let s = sound_held c in
    let n : length gs ≤ 256 = let p = sym (length-map gs gate_of) ∙ ap length e in let q = s.few_gates in omega arith in
    (all_fair c.inputs 0 gs s.few_inputs (omega arith) (ap (wired c.inputs 0) e ∙ s.in_order), n)

pub gates_few_held : (c : HeldCircuit) → gates_size (circuit_of c).gates ≤ 3328
gates_few_held c =
    let f = gates_few (vec_items c.gates) in
    let n = (gates_fair c (vec_items c.gates) refl).1 in
    omega arith

pub outputs_near : (c : HeldCircuit) (os : List Signal) → os ≡ (circuit_of c).outputs → AllByRecursion Near os × (length os ≤ 64)
outputs_near c os e =
    let s = sound_held c in
    let n : length os ≤ 64 = let p = ap length e in let q = s.few_outputs in omega arith in
    (subst (AllByRecursion Near) (sym e) (all_near c.inputs (length (circuit_of c).gates) (circuit_of c).outputs s.few_inputs s.few_gates s.shown), n)

pub inputs_few : (t : HeldTest) → length (test_of t).inputs ≤ 64
inputs_few t = listed_few t.inputs

pub gates_same : (c : HeldCircuit) (gs : List HeldGate) → map gate_of gs ≡ (circuit_of c).gates → length gs ≡ length (circuit_of c).gates
gates_same c gs e = sym (length-map gs gate_of) ∙ ap length e

-- ── inputs ──
input_push : (B a : ℕ) (xs : List Bool) (b : Bool) → input_clauses B a (xs ++ b ∷ []) ≡ input_clauses B a xs ++ (signed b (B + (a + length xs)) ∷ []) ∷ []
input_push B a [] b = ap (λ n. (signed b (B + n) ∷ []) ∷ []) (sym (add-zero a))
input_push B a (x ∷ xs) b = ap (λ r. (signed x (B + a) ∷ []) ∷ r) (input_push B (suc a) xs b ∙ ap (λ n. input_clauses B (suc a) xs ++ (signed b (B + n) ∷ []) ∷ []) (let e : suc a + length xs ≡ a + suc (length xs) = omega arith in e))

pub input_more : (B : ℕ) (xs : List Bool) (i : ℕ) (d : Bool) → i < length xs → input_clauses B 1 (take (i + 1) xs) ≡ input_clauses B 1 (take i xs) ++ (signed (get_or xs i d) (B + suc i) ∷ []) ∷ []
input_more B xs i d lt = ap (input_clauses B 1) (take_more xs i d lt) ∙ input_push B 1 (take i xs) (get_or xs i d) ∙ ap (λ n. input_clauses B 1 (take i xs) ++ (signed (get_or xs i d) (B + n) ∷ []) ∷ []) (let e : 1 + length (take i xs) ≡ suc i = simp length-take (omega arith) in e)

inputs_length : (B a : ℕ) (xs : List Bool) → length (input_clauses B a xs) ≡ length xs
inputs_length B a [] = refl
inputs_length B a (x ∷ xs) = ap suc (inputs_length B (suc a) xs)

-- ── outputs ──
outputs_length : (B I : ℕ) (os : List Signal) (ms : List (Option Bool)) → length (output_clauses B I os ms) ≡ outputs_size os ms
outputs_length B I [] ms = refl
outputs_length B I (o ∷ os) [] = refl
outputs_length B I (o ∷ os) (None ∷ ms) = let r = outputs_length B I os ms in let e = sum_by-cons (λ (m : Option Bool). cond (is_some m) 1 0) None (take (length os) ms) in omega arith
outputs_length B I (o ∷ os) (Some b ∷ ms) = let r = outputs_length B I os ms in let e = sum_by-cons (λ (m : Option Bool). cond (is_some m) 1 0) (Some b) (take (length os) ms) in omega arith

-- behind the last output, or the last value
pub outputs_end : (B I : ℕ) (os : List Signal) (ms : List (Option Bool)) → (length os ≡ 0) ⊎ (length ms ≡ 0) → [] ≡ output_clauses B I os ms
outputs_end B I [] ms e = refl
outputs_end B I (o ∷ os) [] e = refl
outputs_end B I (o ∷ os) (m ∷ ms) e = absurd (⊎_elim (λ x. let z : ⊥ = omega arith in z) (λ x. let z : ⊥ = omega arith in z) e)

-- ── a whole test ──
pub test_length : (c : HeldCircuit) (B : ℕ) (t : Test) → length (test_clauses (circuit_of c) B t) ≡ length t.inputs + gates_size (circuit_of c).gates + outputs_size (circuit_of c).outputs t.outputs
test_length c B t =
    let C = circuit_of c in
    let front : List Clause = input_clauses B 1 t.inputs ++ gates_clauses B C.inputs 1 C.gates in
    length-append front (output_clauses B C.inputs C.outputs t.outputs)
    ∙ (λ j. (length-append (input_clauses B 1 t.inputs) (gates_clauses B C.inputs 1 C.gates) ∙ (λ i. inputs_length B 1 t.inputs i + gates_length B C.inputs 1 (vec_items c.gates) (gates_fair c (vec_items c.gates) refl).0 i)) j + outputs_length B C.inputs C.outputs t.outputs j)

tests_push : (c : Circuit) (N n : ℕ) (ts : List Test) (t : Test) → tests_clauses c N n (ts ++ t ∷ []) ≡ tests_clauses c N n ts ++ test_clauses c (base c N (n + length ts)) t
tests_push c N n [] t = append-nil _ ∙ ap (λ m. test_clauses c (base c N m) t) (sym (add-zero n))
tests_push c N n (x ∷ ts) t = ap (λ r. test_clauses c (base c N n) x ++ r) (tests_push c N (suc n) ts t ∙ ap (λ m. tests_clauses c N (suc n) ts ++ test_clauses c (base c N m) t) (let e : suc n + length ts ≡ n + suc (length ts) = omega arith in e)) ∙ sym (append_assoc (test_clauses c (base c N n) x) _ _)

pub tests_more : (c : Circuit) (N : ℕ) (ts : List HeldTest) (i : ℕ) (d : HeldTest) → i < length ts → tests_clauses c N 0 (map test_of (take (i + 1) ts)) ≡ tests_clauses c N 0 (map test_of (take i ts)) ++ test_clauses c (base c N i) (test_of (get_or ts i d))
tests_more c N ts i d lt =
    let n : 0 + length (map test_of (take i ts)) ≡ i = ap (λ k. 0 + k) (length-map (take i ts) test_of ∙ length-take-le i ts (omega arith)) ∙ (let q : 0 + i ≡ i = omega arith in q) in
    ap (tests_clauses c N 0) (map_more test_of ts i d lt) ∙ tests_push c N 0 (map test_of (take i ts)) (test_of (get_or ts i d)) ∙ ap (λ m. tests_clauses c N 0 (map test_of (take i ts)) ++ test_clauses c (base c N m) (test_of (get_or ts i d))) n
