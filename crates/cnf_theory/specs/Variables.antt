-- The variables of the formula. Gates are numbered from 1, and the mark of gate g is the variable g.
--   count_variable      the count k at gate g, of G gates for the bound N: whether at least k of the gates 1 to g are marked
--   base                the variables before those of test t, tests being numbered from 0
--   input_variable      the value of input i in the test with this base
--   gate_variable       variable j, of three, of gate g in the test with this base, in a circuit of I inputs
--   computed_variable   what the gate's function gives
--   forced_variable     the value forced on the gate where it is marked
--   value_variable      the gate's value
--   signal_variable     the value of a signal
--   variables           how many variables the formula has
use Rattle.std.specs.Prelude.{ℕ, zero, suc, ◌+◌, ◌*◌, List, length}
use Rattle.circuit.specs.declared.gate.Signal.{Signal}
use Rattle.circuit.specs.declared.gate.Signal.TheVariants as signal
use Rattle.circuit.specs.Circuits.{Circuit}
use Rattle.circuit.specs.Tests.{Test}

-- after the marks: for each gate, the counts 1 to N + 1
abbrev pub count_variable : ℕ → ℕ → ℕ → ℕ → ℕ
count_variable G N zero k = 0
count_variable G N (suc h) k = G + (h * suc N + k)

-- the marks and counts, and for each test before, its inputs and three for each gate
abbrev pub base : Circuit → ℕ → ℕ → ℕ
base c N t = length c.gates * suc (suc N) + t * (c.inputs + length c.gates * 3)

abbrev pub input_variable : ℕ → ℕ → ℕ
input_variable B i = B + i

abbrev pub gate_variable : ℕ → ℕ → ℕ → ℕ → ℕ
gate_variable B I zero j = 0
gate_variable B I (suc h) j = B + (I + (h * 3 + j))

abbrev pub computed_variable : ℕ → ℕ → ℕ → ℕ
computed_variable B I g = gate_variable B I g 1

abbrev pub forced_variable : ℕ → ℕ → ℕ → ℕ
forced_variable B I g = gate_variable B I g 2

abbrev pub value_variable : ℕ → ℕ → ℕ → ℕ
value_variable B I g = gate_variable B I g 3

abbrev pub signal_variable : ℕ → ℕ → Signal → ℕ
signal_variable B I (signal.Input i) = input_variable B i
signal_variable B I (signal.Gate g) = value_variable B I g

abbrev pub variables : Circuit → List Test → ℕ → ℕ
variables c ts N = base c N (length ts)
