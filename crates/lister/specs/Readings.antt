-- The readings of a set: for each test a byte of values forced on its gates.
--   told            the value of a variable in the row shown; 0 where none is shown
--   Readable        a gate whose forced value, in the test whose variables come after base, is among the variables in use
--   BringOutTests   the byte of each test, forced on the set, brings out every measured output of that test
use Rattle.std.specs.Prelude.{◌≡◌, ℕ, ◌≤◌, Bool, true, false, List, Some, None, Option, slice_index}
use Rattle.std.specs.List.{slice_get}
use Rattle.circuit.specs.Circuits.{Circuit}
use Rattle.circuit.specs.Tests.{Test}
use Rattle.diagnosis.specs.Sets.{member}
use Rattle.diagnosis.specs.Explains.{brings_out}
use Rattle.diagnosis.specs.Readings.{forced_by}
use Rattle.cnf_theory.specs.Variables.{forced_variable}
use Rattle.solver.specs.Rows.{Row}

abbrev pub told : Option Row → ℕ → Bool
told None v = false
told (Some row) v = row v

pub record Readable (vars base inputs gate : ℕ) : Type 0 where
  pub numbered : 1 ≤ gate
  pub near : gate ≤ 256
  pub in_use : forced_variable base inputs gate ≤ vars

abbrev pub BringOutTests : Circuit → List Test → List ℕ → List ℕ → Type 0
BringOutTests c ts S bytes = (t : ℕ) (test : Test) → slice_get ts t ≡ Some test → brings_out c (member S) (forced_by S (slice_index bytes t)) test ≡ true
