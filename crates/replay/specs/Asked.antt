-- What a call on one test of a circuit asks.
--   is_set         whether numbers handed in are a set: at most 8 gates of a circuit with n gates, strictly ascending
--   admits         whether the inputs are those of a test of the circuit, the set is one of its gates, and so many bytes have room
--   answer         no refusal, or refusal 19
--   SetsAdmitted   what is_set says yes to: just the sets of at most 8 gates
use Rattle.std.specs.Prelude.{◌≡◌, ℕ, ◌≤◌, Bool, true, cond, ◌&&◌, ◌↔◌, List, length, Some, None, Option, ◌==◌, nat_le}
use Rattle.refusal.specs.declared.Refusal.{Refusal}
use Rattle.refusal.specs.Asking.{numbered}
use Rattle.circuit.specs.Circuits.{Circuit}
use Rattle.diagnosis.specs.Sets.{IsSet}
use Rattle.gate_set.specs.Ascending.{above}

abbrev pub is_set : ℕ → List ℕ → Bool
is_set n S = nat_le (length S) 8 && above 0 n S

abbrev pub admits : Circuit → List Bool → List ℕ → ℕ → ℕ → Bool
admits c inputs S wanted room = length inputs == c.inputs && (is_set (length c.gates) S && nat_le wanted room)

abbrev pub answer : Bool → Option Refusal
answer admitted = cond admitted None (Some (numbered 19))

abbrev pub SetsAdmitted : Type 0
SetsAdmitted = (n : ℕ) (S : List ℕ) → (is_set n S ≡ true) ↔ (IsSet n S × (length S ≤ 8))
