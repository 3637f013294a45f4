-- What the gates' values depend on: the marks of the gates alone, and the values forced on marked gates alone.
use Rattle.std.proofs.Common.{◌≡◌, ℕ, suc, ◌+◌, ◌<◌, ◌≤◌, Bool, true, false, cond, ◌&&◌, eqb, List, [], ◌∷◌, ◌++◌, length, get_or, sym, refl, ap, ◌∙◌, add-zero, arith}
use mathlib.Core.Bool.{false≢true}
use Rattle.std.proofs.lemmas.List.{get_or_append_left, get_or_push, length_push}
use Rattle.std.proofs.lemmas.Bool.{cond-false}
use Rattle.circuit.specs.Circuits.{Gate, Circuit}
use Rattle.circuit.specs.Tests.{Test}
use Rattle.diagnosis.specs.Sets.{Marks}
use Rattle.diagnosis.specs.Explains.{Values, numbered, computed, gate_value, simulate, values, agree, brings_out}

-- the values of the gates before stay, and each gate adds one
pub simulate_front : (s : Marks) (w : Values) (inputs : List Bool) (n : ℕ) (vs : List Bool) (gs : List Gate) (j : ℕ) → j < length vs → get_or (simulate s w inputs n vs gs) j false ≡ get_or vs j false
simulate_front s w inputs n vs [] j lt = refl
simulate_front s w inputs n vs (g ∷ gs) j lt = let v : Bool = gate_value s w inputs n vs g in simulate_front s w inputs (suc n) (vs ++ v ∷ []) gs j (omega (arith, length_push vs v)) ∙ get_or_append_left vs _ false j lt

pub simulate_length : (s : Marks) (w : Values) (inputs : List Bool) (n : ℕ) (vs : List Bool) (gs : List Gate) → length (simulate s w inputs n vs gs) ≡ length vs + length gs
simulate_length s w inputs n vs [] = sym (add-zero _)
simulate_length s w inputs n vs (g ∷ gs) = let v : Bool = gate_value s w inputs n vs g in simulate_length s w inputs (suc n) (vs ++ v ∷ []) gs ∙ omega (arith, length_push vs v)

-- only values forced on marked gates count
pub simulate_forced : (s : Marks) (w v : Values) (inputs : List Bool) (n : ℕ) (vs : List Bool) (gs : List Gate) → ((g : ℕ) → s g ≡ true → w g ≡ v g) → simulate s w inputs n vs gs ≡ simulate s v inputs n vs gs
simulate_forced s w v inputs n vs [] same = refl
simulate_forced s w v inputs n vs (g ∷ gs) same = ap (λ b. simulate s w inputs (suc n) (vs ++ b ∷ []) gs) (here (s n) refl) ∙ simulate_forced s w v inputs (suc n) _ gs same
  where
    here : (b : Bool) → s n ≡ b → gate_value s w inputs n vs g ≡ gate_value s v inputs n vs g
    here true t = ap (λ b. cond (s n) b (computed inputs vs g)) (same n t)
    here false t = cond-false (s n) _ _ t ∙ sym (cond-false (s n) _ _ t)

-- only the marks of the gates that are there count
pub simulate_marks : (s r : Marks) (w : Values) (inputs : List Bool) (n : ℕ) (vs : List Bool) (gs : List Gate) → ((i : ℕ) → n ≤ i → i < n + length gs → s i ≡ r i) → simulate s w inputs n vs gs ≡ simulate r w inputs n vs gs
simulate_marks s r w inputs n vs [] same = refl
simulate_marks s r w inputs n vs (g ∷ gs) same =
    ap (λ b. simulate s w inputs (suc n) (vs ++ cond b (w n) (computed inputs vs g) ∷ []) gs) (same n (omega arith) (omega arith))
    ∙ simulate_marks s r w inputs (suc n) _ gs (λ i a b. same i (omega arith) (omega arith))

-- more gates, each forced to the value that it has anyway, change nothing
pub simulate_as_is :
    (s r : Marks) (w : Values) (inputs : List Bool) (vs : List Bool) (gs : List Gate) (V : List Bool)
    → ((g : ℕ) → s g ≡ true → r g ≡ true) → simulate s w inputs (suc (length vs)) vs gs ≡ V
    → simulate r (numbered V) inputs (suc (length vs)) vs gs ≡ V
simulate_as_is s r w inputs vs [] V more is = is
simulate_as_is s r w inputs vs (g ∷ gs) V more is =
    let n : ℕ = length vs in
    let v : Bool = gate_value s w inputs (suc n) vs g in
    let longer : length (vs ++ v ∷ []) ≡ suc n = omega (arith, length_push vs v) in
    let later : simulate r (numbered V) inputs (suc (length (vs ++ v ∷ []))) (vs ++ v ∷ []) gs ≡ V = simulate_as_is s r w inputs (vs ++ v ∷ []) gs V more (ap (λ k. simulate s w inputs (suc k) (vs ++ v ∷ []) gs) longer ∙ is) in
    let stands : get_or V n false ≡ v = ap (λ l. get_or l n false) (sym is) ∙ simulate_front s w inputs (suc (suc n)) (vs ++ v ∷ []) gs n (omega arith) ∙ get_or_push vs v false n refl in
    ap (λ b. simulate r (numbered V) inputs (suc (suc n)) (vs ++ b ∷ []) gs) (as_is (r (suc n)) (s (suc n)) (w (suc n)) (computed inputs vs g) (get_or V n false) (more (suc n)) stands)
    ∙ ap (λ k. simulate r (numbered V) inputs (suc k) (vs ++ v ∷ []) gs) (sym longer)
    ∙ later
  where
    as_is : (r s w own have : Bool) → (s ≡ true → r ≡ true) → have ≡ cond s w own → cond r have own ≡ cond s w own
    as_is true s w own have more e = e
    as_is false true w own have more e = absurd (false≢true (more refl))
    as_is false false w own have more e = refl

-- ── the same for what is brought out ──
brings_from : (c : Circuit) (s r : Marks) (w v : Values) (t : Test) → values c s w t.inputs ≡ values c r v t.inputs → brings_out c s w t ≡ true → brings_out c r v t ≡ true
brings_from c s r w v t same e = ap (λ l. eqb (length t.inputs) c.inputs && agree t.inputs l c.outputs t.outputs) (sym same) ∙ e

pub brings_forced : (c : Circuit) (s : Marks) (w v : Values) (t : Test) → ((g : ℕ) → s g ≡ true → w g ≡ v g) → brings_out c s w t ≡ true → brings_out c s v t ≡ true
brings_forced c s w v t same = brings_from c s s w v t (simulate_forced s w v t.inputs 1 [] c.gates same)

pub brings_marks : (c : Circuit) (s r : Marks) (w : Values) (t : Test) → ((g : ℕ) → 1 ≤ g → g ≤ length c.gates → s g ≡ r g) → brings_out c s w t ≡ true → brings_out c r w t ≡ true
brings_marks c s r w t same = brings_from c s r w w t (simulate_marks s r w t.inputs 1 [] c.gates (λ i a b. same i a (omega arith)))

pub brings_more : (c : Circuit) (s r : Marks) (w : Values) (t : Test) → ((g : ℕ) → s g ≡ true → r g ≡ true) → brings_out c s w t ≡ true → brings_out c r (numbered (values c s w t.inputs)) t ≡ true
brings_more c s r w t more = brings_from c s r w (numbered (values c s w t.inputs)) t (sym (simulate_as_is s r w t.inputs [] c.gates (values c s w t.inputs) more refl))
