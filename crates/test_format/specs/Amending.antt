-- Tests held, with one output of one test changed, or without the last. Tests are numbered from 0, outputs from 1.
--   reading     what the number handed in says of an output: 0 or 1 was measured there, or (2) nothing
--   output_at   what stands at one output of one test
--   replaced    the tests with one output of one of them replaced
--   amended     the tests after that, or the refusal of it
--   Amended     this output is as handed in, and nothing else moved
--   struck      the tests without the last, or the refusal of it
--   Struck      the last test is no longer held
use Rattle.std.specs.Prelude.{◌≡◌, ℕ, zero, suc, ◌-◌, Bool, true, false, List, [], ◌∷◌, ◌++◌, length, take, is_some, Some, None, Ok, Err, Option, Result, ◌≢◌, nat_lt, slice_set}
use Rattle.std.specs.List.{slice_get}
use Rattle.std.specs.Option.{option_map}
use Rattle.refusal.specs.declared.Refusal.{Refusal}
use Rattle.refusal.specs.Asking.{numbered, ask}
use Rattle.circuit.specs.Tests.{Test}

abbrev pub reading : ℕ → Option (Option Bool)
reading zero = Some (Some false)
reading (suc zero) = Some (Some true)
reading (suc (suc zero)) = Some None
reading (suc (suc (suc n))) = None

abbrev pub output_of : Option Test → ℕ → Option (Option Bool)
output_of None o = None
output_of (Some t) zero = None
output_of (Some t) (suc o) = slice_get t.outputs o

abbrev pub output_at : List Test → ℕ → ℕ → Option (Option Bool)
output_at ts k o = output_of (slice_get ts k) o

abbrev pub with_reading : Test → ℕ → Option Bool → Test
with_reading t zero v = t
with_reading t (suc o) v = record { inputs = t.inputs; outputs = slice_set t.outputs o v }

unfoldable pub replaced : List Test → ℕ → ℕ → Option Bool → List Test
replaced [] k o v = []
replaced (t ∷ ts) zero o v = with_reading t o v ∷ ts
replaced (t ∷ ts) (suc k) o v = t ∷ replaced ts k o v

abbrev pub amended_by : List Test → ℕ → ℕ → Option (Option Bool) → Result (List Test) Refusal
amended_by ts k o None = Err (numbered 14)
amended_by ts k o (Some v) = ask (numbered 14) (is_some (output_at ts k o)) (Ok (replaced ts k o v))

abbrev pub amended : List Test → ℕ → ℕ → ℕ → Result (List Test) Refusal
amended ts k o n = amended_by ts k o (reading n)

pub record Amended (before after : List Test) (k o n : ℕ) : Type 0 where
  pub here : output_at after k o ≡ reading n
  pub elsewhere : (j p : ℕ) → (j ≡ k → p ≢ o) → output_at after j p ≡ output_at before j p
  pub inputs : (j : ℕ) → option_map (λ t. t.inputs) (slice_get after j) ≡ option_map (λ t. t.inputs) (slice_get before j)

abbrev pub struck : List Test → Result (List Test) Refusal
struck ts = ask (numbered 15) (nat_lt 0 (length ts)) (Ok (take (length ts - 1) ts))

pub record Struck (before after : List Test) : Type 0 where
  pub test : Test
  pub last : before ≡ after ++ test ∷ []
