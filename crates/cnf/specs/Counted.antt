-- How many clauses the pieces of a test have.
--   function_size   the function of a gate of this kind and so many operands: one for each and one more, or the table of two
--   gate_size       a gate: its function, and the four of the selection
--   gates_size      gates
--   outputs_size    outputs: one for each that was measured
use Rattle.std.specs.Prelude.{ℕ, ◌+◌, Bool, List, map, take, length, sum, count_by, is_some, Option}
use Rattle.circuit.specs.declared.kind.Kind.{Kind}
use Rattle.circuit.specs.declared.kind.Kind.TheVariants.{And, Or, Nand, Nor, Xor, Xnor, Not}
use Rattle.circuit.specs.declared.gate.Signal.{Signal}
use Rattle.circuit.specs.Circuits.{Gate}

abbrev pub function_size : Kind → ℕ → ℕ
function_size And n = n + 1
function_size Nand n = n + 1
function_size Or n = n + 1
function_size Nor n = n + 1
function_size Not n = n + 1
function_size Xor n = 4
function_size Xnor n = 4

abbrev pub gate_size : Gate → ℕ
gate_size g = function_size g.kind (length g.operands) + 4

abbrev pub gates_size : List Gate → ℕ
gates_size gs = sum (map gate_size gs)

abbrev pub outputs_size : List Signal → List (Option Bool) → ℕ
outputs_size os ms = count_by is_some (take (length os) ms)
