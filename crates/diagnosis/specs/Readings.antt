-- Forced values in a byte: bit i, counted from 0, is the value forced on the set's gate i.
--   reading            the byte of the values forced on a set
--   forced_by          the values that a byte forces on a set; bits above the set's size force nothing
--   ReadingsBringOut   the byte of forced values brings out what they bring out
use Rattle.std.specs.Prelude.{◌≡◌, ℕ, ◌+◌, ◌*◌, ◌/◌, ◌%◌, true, false, cond, List, [], ◌∷◌, ◌==◌}
use Rattle.circuit.specs.Circuits.{Circuit}
use Rattle.circuit.specs.Tests.{Test}
use Rattle.diagnosis.specs.Sets.{member}
use Rattle.diagnosis.specs.Explains.{Values, brings_out}

abbrev pub reading : List ℕ → Values → ℕ
reading [] w = 0
reading (x ∷ S) w = cond (w x) 1 0 + 2 * reading S w

abbrev pub forced_by : List ℕ → ℕ → Values
forced_by [] b g = false
forced_by (x ∷ S) b g = cond (g == x) (b % 2 == 1) (forced_by S (b / 2) g)

abbrev pub ReadingsBringOut : Type 0
ReadingsBringOut = (c : Circuit) (S : List ℕ) (w : Values) (t : Test) → brings_out c (member S) w t ≡ true → brings_out c (member S) (forced_by S (reading S w)) t ≡ true
