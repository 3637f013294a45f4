use Rattle.std.proofs.Common.{◌≡◌, ℕ, ◌<◌, length, get_or}
use Rattle.circuit.specs.Held.{circuit_of}
use Rattle.diagnosis.specs.Readings.{reading}
use Rattle.cnf_theory.specs.Variables.{base, forced_variable}
use Rattle.inline_list.specs.Listed.{listed}
use Rattle.gate_set.specs.Held.{set_of}
use Rattle.lister.specs.Readings.{told}
use Rattle.lister.proofs.readings.read_tests.Given as goal

abbrev pub invariant-loop-t : goal.invariant-loop-t
invariant-loop-t g l =
    let C = circuit_of l.problem.circuit.now in
    (length (listed l.readings) ≡ l.t)
    × ((t : ℕ) → t < l.t → get_or (listed l.readings) t 0 ≡ reading (set_of l.set) (λ x. told (g.S.Solver.meaning l.solver).shown (forced_variable (base C l.problem.bound.value t) C.inputs x)))
