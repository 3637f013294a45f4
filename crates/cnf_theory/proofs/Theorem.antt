-- The formula says that at most N gates are marked and explain every test.
use Rattle.std.proofs.Common.{◌≡◌, ℕ, zero, suc, ◌+◌, ◌<◌, ◌≤◌, Bool, false, leb, List, [], ◌∷◌, ◌++◌, map, length, get_or, sym, refl, ap, ◌∙◌, subst, add-zero, add-suc, suc-add, arith}
use Rattle.std.specs.List.{AllByRecursion}
use Rattle.std.proofs.lemmas.Bool.{lt-leb}
use Rattle.circuit.specs.Circuits.{Circuit, Sound}
use Rattle.circuit.specs.Tests.{Test, FitsTest}
use Rattle.diagnosis.specs.Explains.{computed, values, ExplainsCase}
use Rattle.diagnosis.specs.Marked.{count}
use Rattle.diagnosis.proofs.Marked.{explains_same}
use Rattle.cnf_theory.specs.Literals.{Row, Holds}
use Rattle.cnf_theory.specs.Variables.{count_variable, base}
use Rattle.cnf_theory.specs.Counter.{counter, limit}
use Rattle.cnf_theory.specs.Formula.{test_clauses, tests_clauses, formula}
use Rattle.cnf_theory.specs.FormulaLaws.{MarksJust, SaysExplains, CountsTo}
use Rattle.cnf_theory.proofs.Clauses.{holds_left, holds_right, holds_both}
use Rattle.cnf_theory.proofs.Counter.{count_same, not_reached, at_most, off_limit, counted}
use Rattle.cnf_theory.proofs.TestSound.{test_sound}
use Rattle.cnf_theory.proofs.TestComplete.{TestRow, test_complete}
use Rattle.cnf_theory.proofs.Row.{row, row_mark, row_count, row_input, row_gate}

-- ── the marks of a row of the formula explain ──
tests_sound : (c : Circuit) (N n : ℕ) (ts : List Test) (ρ : Row) → Sound c → AllByRecursion (FitsTest c) ts → Holds ρ (tests_clauses c N n ts) → ExplainsCase c ρ ts
tests_sound c N n [] ρ sound fit h = tt
tests_sound c N n (t ∷ ts) ρ sound fit h = (
  test_sound c ρ (base c N n) t sound.in_order sound.shown fit.0 (holds_left ρ (test_clauses c (base c N n) t) _ h),
  tests_sound c N (suc n) ts ρ sound fit.1 (holds_right ρ (test_clauses c (base c N n) t) _ h),
)

-- ── what explains has a row ──
-- the values forced in each test
abbrev forced_in : (c : Circuit) (s : ℕ → Bool) (ts : List Test) → ExplainsCase c s ts → ℕ → ℕ → Bool
forced_in c s [] x n = λ _. false
forced_in c s (t ∷ ts) x zero = x.0.0
forced_in c s (t ∷ ts) x (suc n) = forced_in c s ts x.1 n

abbrev no_test : Test
no_test = record { inputs = []; outputs = [] }

tests_complete : (c : Circuit) (N : ℕ) (ρ s : ℕ → Bool) → Sound c → (n : ℕ) (ts : List Test) → AllByRecursion (FitsTest c) ts → (x : ExplainsCase c s ts) → ((j : ℕ) → j < length ts → TestRow c s (forced_in c s ts x j) (get_or ts j no_test) ρ (base c N (n + j))) → Holds ρ (tests_clauses c N n ts)
tests_complete c N ρ s sound n [] fit x r = tt
tests_complete c N ρ s sound n (t ∷ ts) fit x r =
    holds_both ρ (test_clauses c (base c N n) t) _
    (test_complete c s x.0.0 t ρ (base c N n) (subst (λ (k : ℕ). TestRow c s x.0.0 t ρ (base c N k)) (add-zero n) (r 0 (omega arith))) sound.in_order sound.shown fit.0 x.0.1)
    (tests_complete c N ρ s sound (suc n) ts fit.1 x.1 (λ j lt. subst (λ (k : ℕ). TestRow c s (forced_in c s ts x.1 j) (get_or ts j no_test) ρ (base c N k)) (add-suc n j ∙ sym (suc-add n j)) (r (suc j) (omega arith))))

module _ (c : Circuit) (ts : List Test) (N : ℕ) (s : ℕ → Bool) (sound : Sound c) (fit : AllByRecursion (FitsTest c) ts) (few : count s (length c.gates) ≤ N) (x : ExplainsCase c s ts) where
  abbrev G : ℕ
  G = length c.gates

  abbrev I : ℕ
  I = c.inputs

  abbrev test : ℕ → Test
  test t = get_or ts t no_test

  abbrev V : ℕ → List Bool
  V t = values c s (forced_in c s ts x t) (test t).inputs

  abbrev reach : ℕ → ℕ → Bool
  reach h k = leb (suc k) (count s (suc h))

  abbrev input : ℕ → ℕ → Bool
  input t i = get_or (test t).inputs i false

  abbrev three : ℕ → ℕ → ℕ → Bool
  three t h zero = get_or (map (computed (test t).inputs (V t)) c.gates) h false
  three t h (suc zero) = forced_in c s ts x t (suc h)
  three t h (suc (suc j)) = get_or (V t) h false

  abbrev pub made : Row
  made = row G N I s reach input three

  pub made_marks : MarksJust G s made
  made_marks g a b = row_mark G N I s reach input three g a b

  test_row : (j : ℕ) → TestRow c s (forced_in c s ts x j) (test j) made (base c N j)
  test_row j = record {
    inputs = λ i lt. sym (row_input G N I s reach input three j i lt);
    marks = λ h lt. made_marks (suc h) (omega arith) lt;
    forced = λ h lt. row_gate G N I s reach input three j h 1 lt (omega arith);
    gate_values = λ h lt. sym (row_gate G N I s reach input three j h 2 lt (omega arith));
    gate_functions = λ h lt. row_gate G N I s reach input three j h 0 lt (omega arith);
  }

  made_count : (g k : ℕ) → g ≤ G → 1 ≤ k → k ≤ suc N → 1 ≤ g → made (count_variable G N g k) ≡ leb k (count made g)
  made_count zero k gG k1 kN g1 = absurd (omega arith)
  made_count (suc h) zero gG k1 kN g1 = absurd (omega arith)
  made_count (suc h) (suc k) gG k1 kN g1 = row_count G N I s reach input three h k gG (omega arith) ∙ ap (leb (suc k)) (sym (count_same made s (suc h) (λ i a b. made_marks i a (omega arith))))

  -- a count above the number of marks is not reached
  pub made_off : (k : ℕ) → k ≤ N → count s G ≤ k → made (count_variable G N G (suc k)) ≡ false
  made_off k kN le = off G refl
    where
      off : (g : ℕ) → g ≡ G → made (count_variable G N g (suc k)) ≡ false
      off zero e = refl
      off (suc h) e =
          let same = count_same made s (suc h) (λ i a b. made_marks i a (omega arith)) in
          let less : count s (suc h) ≤ k = subst (λ (n : ℕ). count s n ≤ k) (sym e) le in
          made_count (suc h) (suc k) (omega arith) (omega arith) (omega arith) (omega arith) ∙ lt-leb (suc k) _ (omega arith)

  pub made_holds : Holds made (formula c ts N)
  made_holds =
      holds_both made (counter G N ++ limit G N N) _ (holds_both made (counter G N) _ (counted G N made made_count) (off_limit G N N made (made_off N (omega arith) few)))
      (tests_complete c N made s sound 0 ts fit x (λ j lt. subst (λ (k : ℕ). TestRow c s (forced_in c s ts x j) (test j) made (base c N k)) (omega arith) (test_row j)))

pub counts_to : CountsTo
counts_to c ts N k s sound fit kN = (
  λ r.
      let G = length c.gates in
      let front = holds_left r.0 (counter G N ++ limit G N N) _ r.2 in
      let few = not_reached G N r.0 (holds_left r.0 (counter G N) _ front) k kN r.3 in
      (subst (λ (n : ℕ). n ≤ k) (count_same r.0 s G r.1) few, explains_same c r.0 s ts r.1 (tests_sound c N 0 ts r.0 sound fit (holds_right r.0 (counter G N ++ limit G N N) _ r.2))),
  λ y.
      let few : count s (length c.gates) ≤ N = omega (arith, y.0) in
      (made c ts N s sound fit few y.1, made_marks c ts N s sound fit few y.1, made_holds c ts N s sound fit few y.1, made_off c ts N s sound fit few y.1 k kN y.0),
)

pub says_explains : SaysExplains
says_explains c ts N s sound fit = (
  λ r.
      let G = length c.gates in
      let front = holds_left r.0 (counter G N ++ limit G N N) _ r.2 in
      let few = at_most G N r.0 (holds_left r.0 (counter G N) _ front) (holds_right r.0 (counter G N) _ front) in
      (subst (λ (n : ℕ). n ≤ N) (count_same r.0 s G r.1) few, explains_same c r.0 s ts r.1 (tests_sound c N 0 ts r.0 sound fit (holds_right r.0 (counter G N ++ limit G N N) _ r.2))),
  λ y. (made c ts N s sound fit y.0 y.1, made_marks c ts N s sound fit y.0 y.1, made_holds c ts N s sound fit y.0 y.1),
)
