-- The formula: the clauses for a circuit, its tests and the bound N, in order.
--   input_clauses      the recorded value of each input, from input i on
--   gates_clauses      the clauses of each gate, from gate n on
--   measured_clauses   the value measured at an output; one that was not measured has no clause
--   output_clauses     the value measured at each output that was
--   test_clauses       the clauses of a test whose variables come after B: inputs, gates, outputs
--   tests_clauses      the clauses of the tests, from test n on
--   formula            the counter, its limit, and the tests
use Rattle.std.specs.Prelude.{ℕ, suc, Bool, List, [], ◌∷◌, ◌++◌, length, Some, None, Option}
use Rattle.circuit.specs.declared.gate.Signal.{Signal}
use Rattle.circuit.specs.Circuits.{Gate, Circuit}
use Rattle.circuit.specs.Tests.{Test}
use Rattle.cnf_theory.specs.Literals.{signed, Clause}
use Rattle.cnf_theory.specs.Variables.{base, input_variable, signal_variable}
use Rattle.cnf_theory.specs.Counter.{counter, limit}
use Rattle.cnf_theory.specs.Gates.{gate_clauses}

abbrev pub input_clauses : ℕ → ℕ → List Bool → List Clause
input_clauses B i [] = []
input_clauses B i (b ∷ bs) = (signed b (input_variable B i) ∷ []) ∷ input_clauses B (suc i) bs

abbrev pub gates_clauses : ℕ → ℕ → ℕ → List Gate → List Clause
gates_clauses B I n [] = []
gates_clauses B I n (g ∷ gs) = gate_clauses B I n g ++ gates_clauses B I (suc n) gs

abbrev pub measured_clauses : ℕ → ℕ → Signal → Option Bool → List Clause
measured_clauses B I o None = []
measured_clauses B I o (Some b) = (signed b (signal_variable B I o) ∷ []) ∷ []

abbrev pub output_clauses : ℕ → ℕ → List Signal → List (Option Bool) → List Clause
output_clauses B I [] ms = []
output_clauses B I (o ∷ os) [] = []
output_clauses B I (o ∷ os) (m ∷ ms) = measured_clauses B I o m ++ output_clauses B I os ms

abbrev pub test_clauses : Circuit → ℕ → Test → List Clause
test_clauses c B t = input_clauses B 1 t.inputs ++ gates_clauses B c.inputs 1 c.gates ++ output_clauses B c.inputs c.outputs t.outputs

abbrev pub tests_clauses : Circuit → ℕ → ℕ → List Test → List Clause
tests_clauses c N n [] = []
tests_clauses c N n (t ∷ ts) = test_clauses c (base c N n) t ++ tests_clauses c N (suc n) ts

abbrev pub formula : Circuit → List Test → ℕ → List Clause
formula c ts N = counter (length c.gates) N ++ limit (length c.gates) N N ++ tests_clauses c N 0 ts
