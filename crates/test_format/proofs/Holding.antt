-- Tests that are held, after a record, a change of an output, or a test struck.
use Rattle.std.proofs.Common.{◌≡◌, ℕ, zero, suc, ◌+◌, ◌-◌, ◌<◌, ◌≤◌, Bool, true, false, ltb, List, [], ◌∷◌, length, get_or, take, set, is_some, Some, None, Ok, Err, Option, Result, sym, refl, ap, ◌∙◌, arith}
use Rattle.std.specs.List.{slice_get}
use Rattle.std.proofs.lemmas.List.{take_all, take_more}
use Rattle.std.proofs.lemmas.Bool.{lt-ltb, cond-true, cond-false, false≢true}
use Rattle.refusal.specs.declared.Refusal.{Refusal}
use Rattle.refusal.specs.Asking.{numbered}
use Rattle.circuit.specs.Circuits.{Circuit}
use Rattle.circuit.specs.Tests.{Test}
use Rattle.test_format.specs.Records.{decoded, joined_by, recorded}
use Rattle.test_format.specs.Amending.{reading, output_of, output_at, with_reading, replaced, amended_by, amended, struck, Struck}

-- ── one more record, where n tests are held ──
pub recorded_joined : (c : Circuit) (ts : List Test) (bytes : List ℕ) (n : ℕ) (r : Result Test Refusal) → n ≡ length ts → n < 32 → r ≡ decoded c bytes → recorded c ts bytes ≡ joined_by ts r
recorded_joined c ts bytes n r e h d = cond-true (ltb (length ts) 32) (joined_by ts (decoded c bytes)) (Err (numbered 11)) (lt-ltb (length ts) 32 (omega arith)) ∙ ap (joined_by ts) (sym d)

-- ── places of lists ──
pub set_nowhere : {A : Type 0} (xs : List A) (i : ℕ) (x : A) → slice_get xs i ≡ None → set xs i x ≡ xs
set_nowhere [] i x e = refl
set_nowhere (y ∷ xs) zero x e = absurd (false≢true (sym (ap is_some e)))
set_nowhere (y ∷ xs) (suc i) x e = ap (λ (l : List _). y ∷ l) (set_nowhere xs i x e)

pub set_nth : {A : Type 0} (xs : List A) (i : ℕ) (x : A) → slice_get xs i ≡ Some x → set xs i x ≡ xs
set_nth [] i x e = refl
set_nth (y ∷ xs) zero x e = let same : x ≡ y = cc in ap (λ z. z ∷ xs) same
set_nth (y ∷ xs) (suc i) x e = ap (λ (l : List _). y ∷ l) (set_nth xs i x e)

-- ── one output of the tests held ──
pub replaced_is : (ts : List Test) (k o : ℕ) (v : Option Bool) (t : Test) → slice_get ts k ≡ Some t → set ts k (with_reading t o v) ≡ replaced ts k o v
unfolding replaced
replaced_is [] k o v t e = refl
replaced_is (u ∷ ts) zero o v t e = let same : t ≡ u = cc in ap (λ (w : Test). with_reading w o v ∷ ts) same
replaced_is (u ∷ ts) (suc k) o v t e = ap (λ (l : List Test). u ∷ l) (replaced_is ts k o v t e)

pub amended_no_output : (ts : List Test) (k o n : ℕ) (v : Option Bool) (t : Test) → Some v ≡ reading n → slice_get ts k ≡ Some t → false ≡ is_some (output_of (Some t) o) → amended ts k o n ≡ Err (numbered 14)
amended_no_output ts k o n v t r e no_such =
    ap (amended_by ts k o) (sym r)
    ∙ cond-false (is_some (output_at ts k o)) (Ok (replaced ts k o v)) (Err (numbered 14)) (ap (λ (x : Option Test). is_some (output_of x o)) e ∙ sym no_such)

pub amended_to : (ts : List Test) (k o n : ℕ) (v : Option Bool) (t : Test) → Some v ≡ reading n → slice_get ts k ≡ Some t → true ≡ is_some (output_of (Some t) o) → amended ts k o n ≡ Ok (set ts k (with_reading t o v))
amended_to ts k o n v t r e there =
    ap (amended_by ts k o) (sym r)
    ∙ cond-true (is_some (output_at ts k o)) (Ok (replaced ts k o v)) (Err (numbered 14)) (ap (λ (x : Option Test). is_some (output_of x o)) e ∙ sym there)
    ∙ ap Ok (sym (replaced_is ts k o v t e))

-- ── the last test ──
pub struck_to : (ts : List Test) (n : ℕ) → n ≡ length ts → 0 < n → struck ts ≡ Ok (take (n - 1) ts)
struck_to ts n e some = cond-true (ltb 0 (length ts)) (Ok (take (length ts - 1) ts)) (Err (numbered 15)) (lt-ltb 0 (length ts) (omega arith)) ∙ ap (λ k. Ok (take (k - 1) ts)) (sym e)

pub struck_one : (ts : List Test) (n : ℕ) → n ≡ length ts → 0 < n → Struck ts (take (n - 1) ts)
struck_one [] n e some = absurd (omega arith)
struck_one (t ∷ ts) n e some =
    let last : n - 1 < length (t ∷ ts) = omega arith in
    let whole : length (t ∷ ts) ≤ n - 1 + 1 = omega arith in
    record { test = get_or (t ∷ ts) (n - 1) t; last = sym (take_all (n - 1 + 1) (t ∷ ts) whole) ∙ take_more (t ∷ ts) (n - 1) t last }
