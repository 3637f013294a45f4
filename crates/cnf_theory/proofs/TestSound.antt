-- A row in which a test's clauses hold has forced values that bring out the test.
use Rattle.std.proofs.Common.{◌≡◌, ℕ, zero, suc, ◌+◌, ◌<◌, Bool, true, false, cond, leb, List, [], ◌∷◌, ◌++◌, map, length, get_or, Some, None, Option, sym, refl, ap, ◌∙◌, subst, ⊎_elim, add-zero, add-suc, suc-add, arith}
use mathlib.Core.Bool.{beq}
use Rattle.std.proofs.lemmas.List.{get_or_append_left, get_or_push, length_push, length-map}
use Rattle.std.proofs.lemmas.Bool.{cases_lt, and_parts, and_from, leb-true, eq-eqb}
use Rattle.circuit.specs.declared.gate.Signal.{Signal}
use Rattle.circuit.specs.declared.gate.Signal.TheVariants as signal
use Rattle.std.specs.List.{list_all}
use Rattle.circuit.specs.Kinds.{takes, gives}
use Rattle.circuit.specs.Circuits.{Gate, Circuit, there, fits, wired}
use Rattle.circuit.specs.Tests.{Test, FitsTest}
use Rattle.diagnosis.specs.Explains.{value, gate_value, simulate, values, agree, brings_out, Explains}
use Rattle.cnf_theory.specs.Literals.{Row, Holds}
use Rattle.cnf_theory.specs.Variables.{computed_variable, forced_variable, value_variable, signal_variable}
use Rattle.cnf_theory.specs.Gates.{function, selection, gate_clauses}
use Rattle.cnf_theory.specs.Formula.{input_clauses, gates_clauses, output_clauses, test_clauses}
use Rattle.cnf_theory.proofs.Clauses.{holds_left, holds_right, unit_value}
use Rattle.cnf_theory.proofs.Functions.{function_says, selection_sound}

-- what is known of a gate that may come after m others, and of those after it
pub gate_takes : (I m : ℕ) (g : Gate) (gs : List Gate) → wired I m (g ∷ gs) ≡ true → (takes g.kind (length g.operands) ≡ true) × (list_all (there I m) g.operands ≡ true) × (wired I (suc m) gs ≡ true)
gate_takes I m g gs w =
    let p = and_parts (fits I m g) (wired I (suc m) gs) w in
    let q = and_parts (takes g.kind (length g.operands)) (list_all (there I m) g.operands) p.0 in
    (q.0, q.1, p.1)

pub takes_mapped : (B I : ℕ) (g : Gate) → takes g.kind (length g.operands) ≡ true → takes g.kind (length (map (signal_variable B I) g.operands)) ≡ true
takes_mapped B I g t = ap (takes g.kind) (length-map g.operands (signal_variable B I)) ∙ t

-- ── the signals, by the values of the first m gates ──
module _ (ρ : Row) (B I : ℕ) (inputs : List Bool) (input-is : (i : ℕ) → i < I → get_or inputs i false ≡ ρ (B + suc i)) where
  -- values that a row forces
  abbrev pub forced : ℕ → Bool
  forced g = ρ (forced_variable B I g)

  abbrev pub Known : ℕ → List Bool → Type 0
  Known m vs = (length vs ≡ m) × ((j : ℕ) → j < m → get_or vs j false ≡ ρ (value_variable B I (suc j)))

  pub signal_value : (m : ℕ) (vs : List Bool) → Known m vs → (x : Signal) → there I m x ≡ true → value inputs vs x ≡ ρ (signal_variable B I x)
  signal_value m vs k (signal.Input zero) t = absurd (let e = leb-true 1 0 (and_parts (leb 1 0) (leb 0 I) t).0 in omega arith)
  signal_value m vs k (signal.Input (suc i)) t = input-is i (leb-true (suc i) I (and_parts (leb 1 (suc i)) (leb (suc i) I) t).1)
  signal_value m vs k (signal.Gate zero) t = absurd (let e = leb-true 1 0 (and_parts (leb 1 0) (leb 0 m) t).0 in omega arith)
  signal_value m vs k (signal.Gate (suc g)) t = k.1 g (leb-true (suc g) m (and_parts (leb 1 (suc g)) (leb (suc g) m) t).1)

  pub signal_values : (m : ℕ) (vs : List Bool) → Known m vs → (xs : List Signal) → list_all (there I m) xs ≡ true → map (value inputs vs) xs ≡ map ρ (map (signal_variable B I) xs)
  signal_values m vs k [] t = refl
  signal_values m vs k (x ∷ xs) t = let p = and_parts (there I m x) (list_all (there I m) xs) t in λ i. signal_value m vs k x p.0 i ∷ signal_values m vs k xs p.1 i

  known_push : (m : ℕ) (vs : List Bool) (v : Bool) → Known m vs → v ≡ ρ (value_variable B I (suc m)) → Known (suc m) (vs ++ v ∷ [])
  known_push m vs v k e = (
    length_push vs v ∙ omega (arith, k.0),
    λ j lt.
        ⊎_elim
        (λ below. get_or_append_left vs (v ∷ []) false j (omega (arith, k.0)) ∙ k.1 j below)
        (λ above. let at : m ≡ j = omega arith in get_or_push vs v false j (k.0 ∙ at) ∙ e ∙ ap (λ i. ρ (value_variable B I (suc i))) at)
        (cases_lt j m),
  )

  -- the simulation with the row's marks and forced values gives the values that the row has
  pub simulated : (gs : List Gate) (m : ℕ) (vs : List Bool) → wired I m gs ≡ true → Known m vs → Holds ρ (gates_clauses B I (suc m) gs) → Known (m + length gs) (simulate ρ forced inputs (suc m) vs gs)
  simulated [] m vs f k h = subst (λ (n : ℕ). Known n vs) (sym (add-zero m)) k
  simulated (g ∷ gs) m vs f k h =
      let n = suc m in
      let l = computed_variable B I n in
      let first = function g.kind l (map (signal_variable B I) g.operands) in
      let four = selection n l (forced_variable B I n) (value_variable B I n) in
      let fit = gate_takes I m g gs f in
      let here = holds_left ρ (gate_clauses B I n g) _ h in
      let fun = (function_says ρ g.kind l (map (signal_variable B I) g.operands) (takes_mapped B I g fit.0)).0 (holds_left ρ first four here) in
      let c4 = holds_right ρ first four here in
      let v : Bool = gate_value ρ forced inputs n vs g in
      let e : v ≡ ρ (value_variable B I n) = ap (λ u. cond (ρ n) (forced n) u) (ap (gives g.kind) (signal_values m vs k g.operands fit.1) ∙ sym fun) ∙ selection_sound (ρ n) (ρ l) (ρ (forced_variable B I n)) (ρ (value_variable B I n)) c4.0 c4.1.0 c4.1.1.0 c4.1.1.1.0 in
      subst (λ (n : ℕ). Known n (simulate ρ forced inputs (suc (suc m)) (vs ++ v ∷ []) gs)) (suc-add m (length gs) ∙ sym (add-suc m (length gs)))
      (simulated gs (suc m) (vs ++ v ∷ []) fit.2 (known_push m vs v k e) (holds_right ρ (gate_clauses B I n g) _ h))

-- ── one test ──
inputs_sound : (ρ : Row) (B n : ℕ) (bs : List Bool) → Holds ρ (input_clauses B n bs) → (i : ℕ) → i < length bs → get_or bs i false ≡ ρ (B + (n + i))
inputs_sound ρ B n [] h i lt = absurd (omega arith)
inputs_sound ρ B n (b ∷ bs) h zero lt = unit_value ρ b (B + n) h.0 ∙ ap (λ k. ρ (B + k)) (sym (add-zero n))
inputs_sound ρ B n (b ∷ bs) h (suc i) lt = inputs_sound ρ B (suc n) bs h.1 i (omega arith) ∙ ap (λ k. ρ (B + k)) (suc-add n i ∙ sym (add-suc n i))

beq_same : (a b : Bool) → a ≡ b → beq a b ≡ true
beq_same true b e = sym (ap (beq true) e)
beq_same false b e = sym (ap (beq false) e)

outputs_sound : (ρ : Row) (B I m : ℕ) (inputs vs : List Bool) → ((x : Signal) → there I m x ≡ true → value inputs vs x ≡ ρ (signal_variable B I x)) → (os : List Signal) (ms : List (Option Bool)) → length ms ≡ length os → list_all (there I m) os ≡ true → Holds ρ (output_clauses B I os ms) → agree inputs vs os ms ≡ true
outputs_sound ρ B I m inputs vs k [] [] z t h = refl
outputs_sound ρ B I m inputs vs k [] (x ∷ ms) z t h = absurd (omega arith)
outputs_sound ρ B I m inputs vs k (o ∷ os) [] z t h = absurd (omega arith)
outputs_sound ρ B I m inputs vs k (o ∷ os) (None ∷ ms) z t h = outputs_sound ρ B I m inputs vs k os ms (omega arith) (and_parts (there I m o) (list_all (there I m) os) t).1 h
outputs_sound ρ B I m inputs vs k (o ∷ os) (Some b ∷ ms) z t h =
    let p = and_parts (there I m o) (list_all (there I m) os) t in
    and_from _ _ (beq_same b _ (unit_value ρ b _ h.0 ∙ sym (k o p.0))) (outputs_sound ρ B I m inputs vs k os ms (omega arith) p.1 h.1)

-- a row brings out the test by its own marks and by the values that it forces
pub test_brings_out : (c : Circuit) (ρ : Row) (B : ℕ) (t : Test) → wired c.inputs 0 c.gates ≡ true → list_all (there c.inputs (length c.gates)) c.outputs ≡ true → FitsTest c t → Holds ρ (test_clauses c B t) → brings_out c ρ (λ g. ρ (forced_variable B c.inputs g)) t ≡ true
test_brings_out c ρ B t f o fit h =
    let I = c.inputs in
    let e = fit.inputs in
    let one = input_clauses B 1 t.inputs in
    let two = gates_clauses B I 1 c.gates in
    let front = holds_left ρ (one ++ two) _ h in
    let is : (i : ℕ) → i < I → get_or t.inputs i false ≡ ρ (B + suc i) = λ i lt. inputs_sound ρ B 1 t.inputs (holds_left ρ one two front) i (omega arith) ∙ ap (λ k. ρ (B + k)) (omega arith) in
    let known = simulated ρ B I t.inputs is c.gates 0 [] f (refl, λ j lt. absurd (omega arith)) (holds_right ρ one two front) in
    let G : 0 + length c.gates ≡ length c.gates = omega arith in
    let vs = values c ρ (λ g. ρ (forced_variable B I g)) t.inputs in
    and_from _ _ (eq-eqb _ _ e) (outputs_sound ρ B I (0 + length c.gates) t.inputs vs (signal_value ρ B I t.inputs is _ vs known) c.outputs t.outputs fit.outputs (subst (λ (n : ℕ). list_all (there I n) c.outputs ≡ true) (sym G) o) (holds_right ρ (one ++ two) _ h))

pub test_sound : (c : Circuit) (ρ : Row) (B : ℕ) (t : Test) → wired c.inputs 0 c.gates ≡ true → list_all (there c.inputs (length c.gates)) c.outputs ≡ true → FitsTest c t → Holds ρ (test_clauses c B t) → Explains c ρ t
test_sound c ρ B t f o fit h = ((λ g. ρ (forced_variable B c.inputs g)), test_brings_out c ρ B t f o fit h)
