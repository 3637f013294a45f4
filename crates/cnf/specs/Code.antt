-- Literals, gates and operands as the code has them.
--   literal_of     the literal that the code's is
--   numbers        variables by their numbers
--   Near           a signal within the limits of a circuit
--   Fair           a gate as a circuit holds it: its kind takes its operands, and these are near
use Rattle.std.specs.Prelude.{◌≡◌, ℕ, ◌≤◌, true, List, map, length}
use Rattle.std.specs.List.{AllByRecursion}
use Rattle.circuit.specs.declared.gate.Signal.{Signal}
use Rattle.circuit.specs.declared.gate.Signal.TheVariants as signal
use Rattle.circuit.specs.declared.gate.Gate.{Gate as HeldGate}
use Rattle.circuit.specs.Kinds.{takes}
use Rattle.inline_list.specs.Listed.{listed}
use Rattle.cnf_theory.specs.Literals as theory
use Rattle.cnf.specs.declared.literal.Variable.{Variable}
use Rattle.cnf.specs.declared.literal.Literal.{Literal}
use Rattle.cnf.specs.declared.literal.Literal.TheVariants as literal

abbrev pub literal_of : Literal → theory.Literal
literal_of (literal.Positive v) = theory.positive v.number
literal_of (literal.Negative v) = theory.negative v.number

abbrev pub numbers : List Variable → List ℕ
numbers vs = map (λ v. v.number) vs

abbrev pub Near : Signal → Type 0
Near (signal.Input i) = (1 ≤ i) × (i ≤ 64)
Near (signal.Gate g) = (1 ≤ g) × (g ≤ 256)

abbrev pub Fair : HeldGate → Type 0
Fair g = AllByRecursion Near (listed g.operands) × (takes g.kind (length (listed g.operands)) ≡ true)
