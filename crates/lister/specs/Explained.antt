-- What the code's explanations stand for.
--   set_in       the set of an explanation, if there is one
--   ReadingsOf   its readings, if there is one: a byte for each test, and each brings out its test, both as a list and as the 32 places that it lies in
use Rattle.std.specs.Prelude.{◌≡◌, ℕ, List, length, IfSome, Option}
use Rattle.std.specs.Option.{option_map}
use Rattle.circuit.specs.Circuits.{Circuit}
use Rattle.circuit.specs.Tests.{Test}
use Rattle.inline_list.specs.Listed.{listed, places_of}
use Rattle.gate_set.specs.Held.{set_of}
use Rattle.lister.specs.declared.explanation.Explanation.{Explanation}
use Rattle.lister.specs.Readings.{BringOutTests}

abbrev pub set_in : Option Explanation → Option (List ℕ)
set_in o = option_map (λ x. set_of x.set) o

abbrev pub ReadingsOf : Circuit → List Test → Option Explanation → Type 0
ReadingsOf c ts o = IfSome o (λ x. (length (listed x.readings) ≡ length ts) × BringOutTests c ts (set_of x.set) (listed x.readings) × (length (places_of x.readings) ≡ 32) × BringOutTests c ts (set_of x.set) (places_of x.readings))
