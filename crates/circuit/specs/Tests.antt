-- Tests.
--   Test       an applied test: the value of each input, and at each output the value measured there, or none
--   FitsTest   a test of a circuit: it has a value for each input and a place for each output
use Rattle.std.specs.Prelude.{◌≡◌, Bool, List, length, Option}
use Rattle.circuit.specs.Circuits.{Circuit}

pub record Test : Type 0 where
  pub inputs : List Bool
  pub outputs : List (Option Bool)

pub record FitsTest (c : Circuit) (t : Test) : Type 0 where
  pub inputs : length t.inputs ≡ c.inputs
  pub outputs : length t.outputs ≡ length c.outputs
