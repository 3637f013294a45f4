-- A row put together from its parts, and what it has at each variable of the formula.
use Rattle.std.proofs.Common.{◌≡◌, ℕ, zero, suc, ◌+◌, ◌-◌, ◌*◌, ◌/◌, ◌%◌, ◌<◌, ◌≤◌, Bool, false, cond, ltb, leb, ap, ◌∙◌, ap₂, mul-suc, arith}
use lib.Arith.{digits_lt, digits_div, digits_mod}
use Rattle.std.proofs.lemmas.Bool.{cond-true, cond-false, lt-ltb, le-ltb, le-leb, lt-leb}
use Rattle.cnf_theory.specs.Literals.{Row}
use Rattle.cnf_theory.specs.Variables.{count_variable, gate_variable}

-- the marks; the counts, by gate and count from 0; the inputs, by test and input from 0; the gates' three, by test, gate and place from 0
module _ (G N I : ℕ) (mark : ℕ → Bool) (reach : ℕ → ℕ → Bool) (input : ℕ → ℕ → Bool) (three : ℕ → ℕ → ℕ → Bool) where
  abbrev pub place : ℕ → ℕ → Bool
  place t r = cond (ltb r I) (input t r) (three t ((r - I) / 3) ((r - I) % 3))

  abbrev pub tests : ℕ → Bool
  tests x = place (x / (I + G * 3)) (x % (I + G * 3))

  abbrev pub afterMarks : ℕ → Bool
  afterMarks u = cond (ltb u (G * suc N)) (reach (u / suc N) (u % suc N)) (tests (u - G * suc N))

  abbrev pub row : Row
  row zero = false
  row (suc v) = cond (leb (suc v) G) (mark (suc v)) (afterMarks (v - G))

  pub row_mark : (g : ℕ) → 1 ≤ g → g ≤ G → row g ≡ mark g
  row_mark zero a h = absurd (omega arith)
  row_mark (suc g) a h = cond-true _ _ _ (le-leb (suc g) G h)

  -- what stands behind the marks
  behind : (u : ℕ) → row (G + suc u) ≡ afterMarks u
  behind u = ap row (let e : G + suc u ≡ suc (G + u) = omega arith in e) ∙ cond-false _ _ _ (lt-leb _ G (omega arith)) ∙ ap afterMarks (let e : G + u - G ≡ u = omega arith in e)

  pub row_count : (h k : ℕ) → h < G → k < suc N → row (count_variable G N (suc h) (suc k)) ≡ reach h k
  row_count h k hG kN =
      ap row (let e : G + (h * suc N + suc k) ≡ G + suc (h * suc N + k) = omega arith in e)
      ∙ behind (h * suc N + k)
      ∙ cond-true _ _ _ (lt-ltb _ _ (digits_lt hG kN))
      ∙ ap₂ reach (digits_div h kN) (digits_mod h kN)

  -- what stands at place r of test t
  at_test : (t r : ℕ) → r < I + G * 3 → row (G * suc (suc N) + t * (I + G * 3) + suc r) ≡ place t r
  at_test t r h =
      let two = mul-suc G (suc N) in
      ap row (let e : G * suc (suc N) + t * (I + G * 3) + suc r ≡ G + suc (G * suc N + (t * (I + G * 3) + r)) = omega (arith, two) in e)
      ∙ behind (G * suc N + (t * (I + G * 3) + r))
      ∙ cond-false _ _ _ (le-ltb (G * suc N + (t * (I + G * 3) + r)) (G * suc N) (omega arith))
      ∙ ap tests (let e : G * suc N + (t * (I + G * 3) + r) - G * suc N ≡ t * (I + G * 3) + r = omega arith in e)
      ∙ ap₂ place (digits_div t h) (digits_mod t h)

  pub row_input : (t i : ℕ) → i < I → row (G * suc (suc N) + t * (I + G * 3) + suc i) ≡ input t i
  row_input t i h = at_test t i (omega arith) ∙ cond-true _ _ _ (lt-ltb i I h)

  pub row_gate : (t h j : ℕ) → h < G → j < 3 → row (gate_variable (G * suc (suc N) + t * (I + G * 3)) I (suc h) (suc j)) ≡ three t h j
  row_gate t h j hG j3 =
      let in_range : h * 3 + j < G * 3 = digits_lt hG j3 in
      let at : I + (h * 3 + j) - I ≡ h * 3 + j = omega arith in
      ap row (let e : G * suc (suc N) + t * (I + G * 3) + (I + (h * 3 + suc j)) ≡ G * suc (suc N) + t * (I + G * 3) + suc (I + (h * 3 + j)) = omega arith in e)
      ∙ at_test t (I + (h * 3 + j)) (omega arith)
      ∙ cond-false _ _ _ (le-ltb (I + (h * 3 + j)) I (omega arith))
      ∙ ap₂ (three t) (ap (λ x. x / 3) at ∙ digits_div h j3) (ap (λ x. x % 3) at ∙ digits_mod h j3)
