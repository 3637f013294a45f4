-- The variables that are read are in use, and one test's byte more.
use Rattle.std.proofs.Common.{◌≡◌, ℕ, zero, suc, ◌+◌, ◌*◌, ◌<◌, ◌≤◌, List, [], ◌∷◌, ◌++◌, length, get_or, sym, ap, ◌∙◌, ⊎_elim, mul-le-mul_right, suc-mul, arith}
use Rattle.std.specs.List.{AllByRecursion}
use Rattle.std.proofs.Math.Seq.{get_or-append_seam}
use Rattle.std.proofs.lemmas.Bool.{cases_eq}
use Rattle.std.proofs.lemmas.List.{get_or_append_left}
use Rattle.circuit.specs.Circuits.{Circuit}
use Rattle.diagnosis.specs.Sets.{Ascends, IsSet}
use Rattle.cnf_theory.specs.Variables.{base, forced_variable}
use Rattle.lister.specs.Readings.{Readable}

module _ (c : Circuit) (N T V : ℕ) (few : length c.gates ≤ 256) (all_in_use : base c N T ≤ V) where
  -- the variables of a test come before those of the tests after it
  test_in_use : (t : ℕ) → t < T → base c N t + (c.inputs + length c.gates * 3) ≤ V
  test_in_use t l =
      let I = c.inputs in
      let G = length c.gates in
      let one = suc-mul t (I + G * 3) in
      let most : suc t * (I + G * 3) ≤ T * (I + G * 3) = mul-le-mul_right (I + G * 3) l in
      omega arith

  forced_in_use : (t : ℕ) → t < T → (g : ℕ) → 1 ≤ g → g ≤ length c.gates → forced_variable (base c N t) c.inputs g ≤ V
  forced_in_use t l zero a b = absurd (omega arith)
  forced_in_use t l (suc h) a b = let u = test_in_use t l in omega arith

  from_readable : (t a : ℕ) (S : List ℕ) → t < T → 1 ≤ a → Ascends a (length c.gates) S → AllByRecursion (Readable V (base c N t) c.inputs) S
  from_readable t a [] l o s = tt
  from_readable t a (x ∷ S) l o s = (record { numbered = omega (arith, s.0); near = omega (arith, s.1); in_use = forced_in_use t l x (omega (arith, s.0)) s.1 }, from_readable t (suc x) S l (omega arith) s.2)

  pub set_readable : (t : ℕ) (S : List ℕ) → t < T → IsSet (length c.gates) S → AllByRecursion (Readable V (base c N t) c.inputs) S
  set_readable t S l s = from_readable t 1 S l (omega arith) s

-- one test's byte more
pub bytes_more : (f : ℕ → ℕ) (bytes more : List ℕ) (t byte : ℕ) → length bytes ≡ t → more ≡ bytes ++ byte ∷ [] → ((s : ℕ) → s < t → get_or bytes s 0 ≡ f s) → byte ≡ f t → (s : ℕ) → s < t + 1 → get_or more s 0 ≡ f s
bytes_more f bytes more t byte len is h e s u =
    ap (λ bs. get_or bs s 0) is
    ∙ ⊎_elim
    (λ same. ap (λ i. get_or (bytes ++ byte ∷ []) i 0) (same ∙ sym len) ∙ get_or-append_seam bytes byte [] 0 ∙ e ∙ ap f (sym same))
    (λ other. get_or_append_left bytes (byte ∷ []) 0 s (let q : s < t = below s u other in omega arith) ∙ h s (let q : s < t = below s u other in q))
    (cases_eq s t)
  where
    below : (s : ℕ) → s < t + 1 → (s ≡ t → ⊥) → s < t
    below s u ne = omega arith
