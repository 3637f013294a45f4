-- The bits of a test in the words of all tests.
use Rattle.std.proofs.Common.{◌≡◌, ℕ, ◌+◌, ◌<◌, ◌≤◌, Bool, true, false, not, ◌&&◌, eqb, List, [], ◌∷◌, map, length, get_or, take, set, None, vec_items, sym, refl, ap, ◌∙◌, ⊎_elim, arith}
use Rattle.std.proofs.lemmas.List.{ext_get_or, get_or-map, get_or-set_same, get_or-set_other, get_or-take, map-set, length-map, length-take-le, take-map}
use Rattle.std.proofs.lemmas.Bool.{eqb-true, cases_eq}
use Rattle.circuit.specs.Circuits.{Circuit}
use Rattle.circuit.specs.Tests.{Test}
use Rattle.circuit.specs.declared.gate.Signal.{Signal}
use Rattle.diagnosis.specs.Sets.{member}
use Rattle.diagnosis.specs.Explains.{value, values, agree}
use Rattle.signal_value.specs.declared.word.Word.{Word}
use Rattle.signal_value.specs.Possible.{Possible, only, both}
use Rattle.signal_value.specs.Kept.{lane}
use Rattle.evaluation.specs.Evaluated.{standing, evaluated}
use Rattle.evaluation.proofs.Known.{standing_only, evaluation_of_bits}
use Rattle.testlog.specs.declared.test.Test.{Test as HeldTest}
use Rattle.testlog.specs.declared.table.TestTable.{TestTable}
use Rattle.testlog.specs.Held.{test_of, tests_of}
use Rattle.failing.specs.Missed.{missed, word_of}
use Rattle.failing.specs.Columns.{column, in_test}
use Rattle.failing.proofs.Packed.{lane_packed}

-- what words stand for in a lane
abbrev pub lane_of : ℕ → List Word → List Possible
lane_of t ws = map (λ w. only (lane w.0 t)) ws

pub lane_known : (t : ℕ) (ws : List Word) → lane_of t ws ≡ map only (in_test t ws)
lane_known t [] = refl
lane_known t (w ∷ ws) = ap (λ l. only (lane w.0 t) ∷ l) (lane_known t ws)

pub only_same : (a b : Bool) → only a ≡ only b → a ≡ b
only_same a b e = ap bit e
  where
    bit : Possible → Bool
    bit (only x) = x
    bit both = false

pub signal_in_lane : (t : ℕ) (inputs vs : List Word) (o : Signal) (b : Bool) → only b ≡ standing (lane_of t inputs) (lane_of t vs) o → b ≡ value (in_test t inputs) (in_test t vs) o
signal_in_lane t inputs vs o b e = only_same b (value (in_test t inputs) (in_test t vs) o) (e ∙ (λ j. standing (lane_known t inputs j) (lane_known t vs j) o) ∙ standing_only (in_test t inputs) (in_test t vs) o)

-- ── with as many inputs as the circuit has, the words of the inputs hold the test's inputs ──
values_of : (t : ℕ) (ws : List Word) → in_test t ws ≡ map (λ n. lane n t) (map (λ w. w.0) ws)
values_of t [] = refl
values_of t (w ∷ ws) = ap (λ l. lane w.0 t ∷ l) (values_of t ws)

pub inputs_in_lane :
    (ts : List Test) (T : Test) (t : ℕ) (n : ℕ) (ws : List Word) → t < length ts → ((d : Test) → get_or ts t d ≡ T) → n ≤ length ws → length ws ≡ 64 → length T.inputs ≡ n
    → ((k : ℕ) → k < 64 → get_or (map (λ w. w.0) ws) k 0 ≡ word_of (column ts k)) → in_test t (take n ws) ≡ T.inputs
inputs_in_lane ts T t n ws lt is room sixty-four many each =
    let long : length (in_test t (take n ws)) ≡ n = length-map (take n ws) (λ w. lane w.0 t) ∙ length-take-le n ws room in
    ext_get_or false (in_test t (take n ws)) T.inputs (long ∙ sym many)
    (λ j h.
    ap (λ l. get_or l j false) (sym (take-map (λ w. lane w.0 t) n ws))
    ∙ get_or-take n (in_test t ws) j false (omega (arith, long))
    ∙ ap (λ l. get_or l j false) (values_of t ws)
    ∙ get_or-map (λ v. lane v t) (map (λ w. w.0) ws) j 0 false (omega (arith, long, length-map ws (λ w. w.0)))
    ∙ ap (λ v. lane v t) (each j (omega (arith, long)))
    ∙ lane_packed (column ts j) t
    ∙ get_or-map (λ (x : Test). get_or x.inputs j false) ts t T false lt
    ∙ ap (λ (x : Test). get_or x.inputs j false) (is T))

-- ── and the words of the gates hold the test's simulated values ──
pub gates_in_lane :
    (c : Circuit) (t : ℕ) (ins : List Bool) (inputs vs : List Word) → in_test t inputs ≡ ins → lane_of t vs ≡ evaluated c (λ n. None) (lane_of t inputs) → in_test t vs ≡ values c (member []) (λ _. false) ins
gates_in_lane c t ins inputs vs is found =
    same-lists-known (in_test t vs) (values c (member []) (λ _. false) ins)
    (sym (lane_known t vs) ∙ found ∙ ap (evaluated c (λ n. None)) (lane_known t inputs ∙ ap (map only) is) ∙ evaluation_of_bits c (member []) (λ _. false) ins)
  where
    bit : Possible → Bool
    bit (only x) = x
    bit both = false

    back : (bs : List Bool) → map bit (map only bs) ≡ bs
    back [] = refl
    back (b ∷ bs) = ap (λ l. b ∷ l) (back bs)

    same-lists-known : (as' bs : List Bool) → map only as' ≡ map only bs → as' ≡ bs
    same-lists-known as' bs e = sym (back as') ∙ ap (map bit) e ∙ back bs

-- ── so the lane tells whether the test is brought out ──
pub shown_brings :
    (c : Circuit) (T : Test) (ins vs : List Bool) (shown : Bool) → shown ≡ (eqb (length T.inputs) c.inputs && agree ins vs c.outputs T.outputs)
    → (length T.inputs ≡ c.inputs → (ins ≡ T.inputs) × (vs ≡ values c (member []) (λ _. false) T.inputs))
    → not shown ≡ missed c T
shown_brings c T ins vs shown is same = ap not (is ∙ by (eqb (length T.inputs) c.inputs) (λ e. same (eqb-true (length T.inputs) c.inputs e)))
  where
    by : (fit : Bool) → (fit ≡ true → (ins ≡ T.inputs) × (vs ≡ values c (member []) (λ _. false) T.inputs)) → (fit && agree ins vs c.outputs T.outputs) ≡ (fit && agree T.inputs (values c (member []) (λ _. false) T.inputs) c.outputs T.outputs)
    by true f = let (i, v) = f refl in λ j. agree (i j) (v j) c.outputs T.outputs
    by false f = refl

pub few_tests : (held : TestTable) (ts : List HeldTest) → map test_of ts ≡ tests_of held → length ts ≤ 32
few_tests held ts e = omega (arith, length-map ts test_of, ap length e, length-map (vec_items held.tests) test_of, held.tests.ok.0, held.few)

-- ── the words of the inputs, filled up to place i ──
pub words_more :
    (ws : List Word) (i : ℕ) (w : Word) (g : ℕ → ℕ) → i < length ws → ((k : ℕ) → k < i → get_or (map (λ v. v.0) ws) k 0 ≡ g k) → w.0 ≡ g i
    → (k : ℕ) → k < i + 1 → get_or (map (λ v. v.0) (set ws i w)) k 0 ≡ g k
words_more ws i w g room each here k h =
    ap (λ l. get_or l k 0) (map-set (λ v. v.0) ws i w)
    ∙ ⊎_elim
    (λ e. ap (λ j. get_or (set (map (λ v. v.0) ws) i w.0) j 0) e ∙ get_or-set_same (map (λ v. v.0) ws) i w.0 0 (omega (arith, length-map ws (λ v. v.0))) ∙ here ∙ ap g (sym e))
    (λ n. get_or-set_other (map (λ v. v.0) ws) i k w.0 0 n ∙ each k (below n h))
    (cases_eq k i)
  where
    below : {a b : ℕ} → (a ≡ b → ⊥) → a < b + 1 → a < b
    below n lt = omega arith
