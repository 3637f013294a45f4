-- Forced values bring out a test exactly if the test fits the circuit and every measured output has its value.
use Rattle.std.proofs.Common.{◌≡◌, ℕ, zero, suc, Bool, true, false, eqb, List, [], ◌∷◌, length, get_or, Some, None, Option, sym, refl, ap, ◌∙◌, arith}
use mathlib.Core.Bool.{beq, false≢true}
use Rattle.std.proofs.lemmas.Bool.{and_parts, and_from, eqb-true, eq-eqb}
use Rattle.circuit.specs.declared.gate.Signal.{Signal}
use Rattle.circuit.specs.declared.gate.Signal.TheVariants as signal
use Rattle.diagnosis.specs.Explains.{agrees, value, agree}
use Rattle.diagnosis.specs.ExplainingLaws.{BringsOutMeasured}

same_bit : (m b : Bool) → beq m b ≡ true → b ≡ m
same_bit true true e = refl
same_bit true false e = e
same_bit false true e = sym e
same_bit false false e = refl

bit_same : (m b : Bool) → b ≡ m → beq m b ≡ true
bit_same true true e = refl
bit_same true false e = e
bit_same false true e = sym e
bit_same false false e = refl

module _ (inputs vs : List Bool) where
  agree_length : (os : List Signal) (ms : List (Option Bool)) → agree inputs vs os ms ≡ true → length ms ≡ length os
  agree_length [] [] e = refl
  agree_length [] (m ∷ ms) e = absurd (false≢true e)
  agree_length (o ∷ os) [] e = absurd (false≢true e)
  agree_length (o ∷ os) (m ∷ ms) e = ap suc (agree_length os ms (and_parts (agrees m (value inputs vs o)) _ e).1)

  agree_each : (os : List Signal) (ms : List (Option Bool)) → agree inputs vs os ms ≡ true → (i : ℕ) (m : Bool) → get_or ms i None ≡ Some m → value inputs vs (get_or os i (signal.Input 0)) ≡ m
  agree_each [] [] e i m is = let z : ◌≡◌ {A = ℕ} 0 1 = cc in absurd (omega arith)
  agree_each [] (n ∷ ms) e i m is = absurd (false≢true e)
  agree_each (o ∷ os) [] e i m is = absurd (false≢true e)
  agree_each (o ∷ os) (None ∷ ms) e zero m is = let z : ◌≡◌ {A = ℕ} 0 1 = cc in absurd (omega arith)
  agree_each (o ∷ os) (Some n ∷ ms) e zero m is = let q : n ≡ m = cc in same_bit n (value inputs vs o) (and_parts (agrees (Some n) (value inputs vs o)) _ e).0 ∙ q
  agree_each (o ∷ os) (n ∷ ms) e (suc i) m is = agree_each os ms (and_parts (agrees n (value inputs vs o)) _ e).1 i m is

  each_agree : (os : List Signal) (ms : List (Option Bool)) → length ms ≡ length os → ((i : ℕ) (m : Bool) → get_or ms i None ≡ Some m → value inputs vs (get_or os i (signal.Input 0)) ≡ m) → agree inputs vs os ms ≡ true
  each_agree [] [] len f = refl
  each_agree [] (m ∷ ms) len f = absurd (omega arith)
  each_agree (o ∷ os) [] len f = absurd (omega arith)
  each_agree (o ∷ os) (None ∷ ms) len f = each_agree os ms (omega arith) (λ i m. f (suc i) m)
  each_agree (o ∷ os) (Some m ∷ ms) len f = and_from _ _ (bit_same m (value inputs vs o) (f 0 m refl)) (each_agree os ms (omega arith) (λ i m. f (suc i) m))

pub brings_out_measured : BringsOutMeasured
brings_out_measured c s w t = (
  λ e.
      let (many, out) = and_parts (eqb (length t.inputs) c.inputs) _ e in
      record { fits = record { inputs = eqb-true _ _ many; outputs = agree_length _ _ c.outputs t.outputs out }; each = agree_each _ _ c.outputs t.outputs out },
  λ m. and_from _ _ (eq-eqb _ _ m.fits.inputs) (each_agree _ _ c.outputs t.outputs m.fits.outputs m.each),
)
