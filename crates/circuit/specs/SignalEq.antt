-- When two signals are the same.
--   signal_eq           both are inputs or both are gates, with the same number
--   signal_eq_decides   that tells whether they are equal
use Rattle.std.specs.Prelude.{◌≡◌, ℕ, Bool, false, ◌==◌, Decides}
use Rattle.std.specs.Cmp.{unsigned_Decides}
use Rattle.std.proofs.Common.{ap}
use Rattle.circuit.specs.declared.gate.Signal.{Signal}
use Rattle.circuit.specs.declared.gate.Signal.TheVariants.{Input, Gate}

abbrev pub signal_eq : Signal → Signal → Bool
signal_eq (Input i) (Input j) = i == j
signal_eq (Input i) (Gate h) = false
signal_eq (Gate g) (Input j) = false
signal_eq (Gate g) (Gate h) = g == h

number : Signal → ℕ
number (Input i) = i
number (Gate g) = g

pub signal_eq_decides : (a b : Signal) → Decides (signal_eq a b) (a ≡ b)
unfolding number
signal_eq_decides (Input i) (Input j) = (λ t. ap Input ((unsigned_Decides i j).0 t), λ e. (unsigned_Decides i j).1 (ap number e))
signal_eq_decides (Input i) (Gate h) = (λ t. cc, λ e. cc)
signal_eq_decides (Gate g) (Input j) = (λ t. cc, λ e. cc)
signal_eq_decides (Gate g) (Gate h) = (λ t. ap Gate ((unsigned_Decides g h).0 t), λ e. (unsigned_Decides g h).1 (ap number e))
