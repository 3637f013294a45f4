-- Amending changes the output named and nothing else, and striking undoes the last record.
use Rattle.std.proofs.Common.{◌≡◌, ℕ, zero, suc, ◌-◌, Bool, true, ltb, List, [], ◌∷◌, ◌++◌, length, set, is_some, Some, None, Ok, Option, sym, refl, ap, ◌∙◌, subst, arith}
use Rattle.std.specs.List.{slice_get}
use Rattle.std.specs.Option.{option_map}
use Rattle.std.proofs.lemmas.List.{length_push, take_at}
use Rattle.std.proofs.lemmas.Bool.{lt-ltb, false≢true}
use Rattle.circuit.specs.Tests.{Test}
use Rattle.test_format.specs.Amending.{reading, output_of, output_at, with_reading, replaced, amended_by, Amended}
use Rattle.test_format.specs.Law.{AmendsOne, StrikesLast}
use Rattle.test_format.proofs.Taken.{ask_taken}
use Rattle.test_format.proofs.ReadBack.{ask_so}

-- ── a place of a list that is set ──
nth_set_same : {A : Type 0} (xs : List A) (i : ℕ) (a : A) → is_some (slice_get xs i) ≡ true → slice_get (set xs i a) i ≡ Some a
nth_set_same [] i a h = absurd (false≢true h)
nth_set_same (x ∷ xs) zero a h = refl
nth_set_same (x ∷ xs) (suc i) a h = nth_set_same xs i a h

nth_set_other : {A : Type 0} (xs : List A) (i j : ℕ) (a : A) → (j ≡ i → ⊥) → slice_get (set xs i a) j ≡ slice_get xs j
nth_set_other [] i j a h = refl
nth_set_other (x ∷ xs) zero zero a h = absurd (h refl)
nth_set_other (x ∷ xs) zero (suc j) a h = refl
nth_set_other (x ∷ xs) (suc i) zero a h = refl
nth_set_other (x ∷ xs) (suc i) (suc j) a h = nth_set_other xs i j a (λ e. h (ap suc e))

-- ── one test ──
output_here : (t : Test) (o : ℕ) (v : Option Bool) → is_some (output_of (Some t) o) ≡ true → output_of (Some (with_reading t o v)) o ≡ Some v
output_here t zero v h = absurd (false≢true h)
output_here t (suc o) v h = nth_set_same t.outputs o v h

output_elsewhere : (t : Test) (o p : ℕ) (v : Option Bool) → (p ≡ o → ⊥) → output_of (Some (with_reading t o v)) p ≡ output_of (Some t) p
output_elsewhere t zero p v h = refl
output_elsewhere t (suc o) zero v h = refl
output_elsewhere t (suc o) (suc p) v h = nth_set_other t.outputs o p v (λ e. h (ap suc e))

inputs_stay : (t : Test) (o : ℕ) (v : Option Bool) → (with_reading t o v).inputs ≡ t.inputs
inputs_stay t zero v = refl
inputs_stay t (suc o) v = refl

-- ── the tests held ──
replaced_here : (ts : List Test) (k o : ℕ) (v : Option Bool) → is_some (output_at ts k o) ≡ true → output_at (replaced ts k o v) k o ≡ Some v
unfolding replaced
replaced_here [] k o v h = absurd (false≢true h)
replaced_here (t ∷ ts) zero o v h = output_here t o v h
replaced_here (t ∷ ts) (suc k) o v h = replaced_here ts k o v h

replaced_elsewhere : (ts : List Test) (k o j p : ℕ) (v : Option Bool) → (j ≡ k → p ≡ o → ⊥) → output_at (replaced ts k o v) j p ≡ output_at ts j p
unfolding replaced
replaced_elsewhere [] k o j p v h = refl
replaced_elsewhere (t ∷ ts) zero o zero p v h = output_elsewhere t o p v (h refl)
replaced_elsewhere (t ∷ ts) zero o (suc j) p v h = refl
replaced_elsewhere (t ∷ ts) (suc k) o zero p v h = refl
replaced_elsewhere (t ∷ ts) (suc k) o (suc j) p v h = replaced_elsewhere ts k o j p v (λ e. h (ap suc e))

replaced_inputs : (ts : List Test) (k o j : ℕ) (v : Option Bool) → option_map (λ t. t.inputs) (slice_get (replaced ts k o v) j) ≡ option_map (λ t. t.inputs) (slice_get ts j)
unfolding replaced
replaced_inputs [] k o j v = refl
replaced_inputs (t ∷ ts) zero o zero v = ap Some (inputs_stay t o v)
replaced_inputs (t ∷ ts) zero o (suc j) v = refl
replaced_inputs (t ∷ ts) (suc k) o zero v = refl
replaced_inputs (t ∷ ts) (suc k) o (suc j) v = replaced_inputs ts k o j v

amended_by_lem : (ts us : List Test) (k o n : ℕ) (r : Option (Option Bool)) → reading n ≡ r → amended_by ts k o r ≡ Ok us → Amended ts us k o n
amended_by_lem ts us k o n None e h = let z : ◌≡◌ {A = ℕ} 0 1 = cc in absurd (omega arith)
amended_by_lem ts us k o n (Some v) e h =
    let p = ask_taken 14 (is_some (output_at ts k o)) (Ok (replaced ts k o v)) us h in
    let same : replaced ts k o v ≡ us = cc p.1 in
    subst (λ (l : List Test). Amended ts l k o n) same
    (record { here = replaced_here ts k o v p.0 ∙ sym e; elsewhere = λ j q no. replaced_elsewhere ts k o j q v no; inputs = λ j. replaced_inputs ts k o j v })

pub amends_one : AmendsOne
amends_one ts us k o n h = amended_by_lem ts us k o n (reading n) refl h

pub strikes_last : StrikesLast
strikes_last = (
  λ ts t.
      let more = length_push ts t in
      let one : length ts ≡ length (ts ++ t ∷ []) - 1 = omega arith in
      ask_so 15 (ltb 0 (length (ts ++ t ∷ []))) _ (lt-ltb 0 (length (ts ++ t ∷ [])) (omega arith)) ∙ ap Ok (take_at ts (t ∷ []) (length (ts ++ t ∷ []) - 1) one),
  refl,
)
