-- What explains a test, and what explains a case.
--   Values         for every gate number, the value forced on that gate where it is marked
--   numbered       the bit of a list with a number, counted from 1
--   value          a signal's value, given the inputs' values and the gates' values
--   computed       what a gate's function gives for its operands' values
--   gate_value     the value of the gate numbered n: the forced value if it is marked, else what its function gives
--   simulate       gates' values in file order, after the values vs of the gates before; the first of them has number n
--   values         the values of all gates of a circuit
--   agrees         whether an output's value is the one measured there; an output that was not measured asks nothing
--   agree          the same of all outputs; a list of measurements that is too short or too long agrees with nothing
--   brings_out     whether forced values bring out every measured output of a test of this circuit
--   Explains       marked gates explain a test: some values forced on them bring it out
--   ExplainsCase   they explain each test, each by forced values of its own
--   ExplainsSet    a set of gates does
use Rattle.std.specs.Prelude.{◌≡◌, ℕ, zero, suc, Bool, true, false, cond, ◌&&◌, List, [], ◌∷◌, ◌++◌, map, length, Some, None, Option, ◌==◌, slice_index_or}
use Rattle.std.specs.Bool.{beq}
use Rattle.std.specs.List.{AllByRecursion}
use Rattle.circuit.specs.declared.gate.Signal.{Signal}
use Rattle.circuit.specs.declared.gate.Signal.TheVariants as signal
use Rattle.circuit.specs.Kinds.{gives}
use Rattle.circuit.specs.Circuits.{Gate, Circuit}
use Rattle.circuit.specs.Tests.{Test}
use Rattle.diagnosis.specs.Sets.{Marks, member}

abbrev pub Values : Type 0
Values = ℕ → Bool

abbrev pub numbered : List Bool → ℕ → Bool
numbered vs zero = false
numbered vs (suc n) = slice_index_or vs n false

abbrev pub value : List Bool → List Bool → Signal → Bool
value inputs vs (signal.Input i) = numbered inputs i
value inputs vs (signal.Gate g) = numbered vs g

abbrev pub computed : List Bool → List Bool → Gate → Bool
computed inputs vs g = gives g.kind (map (value inputs vs) g.operands)

abbrev pub gate_value : Marks → Values → List Bool → ℕ → List Bool → Gate → Bool
gate_value s w inputs n vs g = cond (s n) (w n) (computed inputs vs g)

abbrev pub simulate : Marks → Values → List Bool → ℕ → List Bool → List Gate → List Bool
simulate s w inputs n vs [] = vs
simulate s w inputs n vs (g ∷ gs) = simulate s w inputs (suc n) (vs ++ gate_value s w inputs n vs g ∷ []) gs

abbrev pub values : Circuit → Marks → Values → List Bool → List Bool
values c s w inputs = simulate s w inputs 1 [] c.gates

abbrev pub agrees : Option Bool → Bool → Bool
agrees None b = true
agrees (Some m) b = beq m b

abbrev pub agree : List Bool → List Bool → List Signal → List (Option Bool) → Bool
agree inputs vs [] [] = true
agree inputs vs [] (m ∷ ms) = false
agree inputs vs (o ∷ os) [] = false
agree inputs vs (o ∷ os) (m ∷ ms) = agrees m (value inputs vs o) && agree inputs vs os ms

abbrev pub brings_out : Circuit → Marks → Values → Test → Bool
brings_out c s w t = length t.inputs == c.inputs && agree t.inputs (values c s w t.inputs) c.outputs t.outputs

abbrev pub Explains : Circuit → Marks → Test → Type 0
Explains c s t = (w : Values) × (brings_out c s w t ≡ true)

abbrev pub ExplainsCase : Circuit → Marks → List Test → Type 0
ExplainsCase c s ts = AllByRecursion (Explains c s) ts

abbrev pub ExplainsSet : Circuit → List Test → List ℕ → Type 0
ExplainsSet c ts S = ExplainsCase c (member S) ts
