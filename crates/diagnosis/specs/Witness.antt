-- A small circuit with two tests, which shows that each test needs forced values of its own.
--   P   m = AND(a, b), y = OR(m, c), z = NOT(m), with inputs a, b, c and outputs y, z; its gates m, y, z have the numbers 1, 2, 3
use Rattle.std.specs.Prelude.{true, false, [], ◌∷◌, Some}
use Rattle.circuit.specs.declared.kind.Kind.TheVariants.{And, Or, Not}
use Rattle.circuit.specs.declared.gate.Signal.TheVariants as signal
use Rattle.circuit.specs.Circuits.{Circuit}
use Rattle.circuit.specs.Tests.{Test}

abbrev pub P : Circuit
P = record {
  inputs = 3;
  gates =
      (record { kind = And; operands = signal.Input 1 ∷ signal.Input 2 ∷ [] })
      ∷ (record { kind = Or; operands = signal.Gate 1 ∷ signal.Input 3 ∷ [] })
      ∷ (record { kind = Not; operands = signal.Gate 1 ∷ [] })
      ∷ [];
  outputs = signal.Gate 2 ∷ signal.Gate 3 ∷ [];
}

-- a and b are 1: y was measured 0, and z 1
abbrev pub y_low_z_high : Test
y_low_z_high = record { inputs = true ∷ true ∷ false ∷ []; outputs = Some false ∷ Some true ∷ [] }

-- all inputs are 1: y and z were measured 0
abbrev pub both_low : Test
both_low = record { inputs = true ∷ true ∷ true ∷ []; outputs = Some false ∷ Some false ∷ [] }
