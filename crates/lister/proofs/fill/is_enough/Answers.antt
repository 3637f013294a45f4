-- The capacity is compared, and the clauses are weighed against the width and the room.
use Rattle.std.proofs.Common.{◌≤◌, Some, ap, ◌∙◌, arith}
use Rattle.circuit.specs.Held.{circuit_of}
use Rattle.testlog.specs.Held.{tests_of}
use Rattle.cnf_theory.specs.Variables.{variables}
use Rattle.gate_set.specs.Held.{sets_of}
use Rattle.lister.proofs.Enough.{weighed_enough}
use Rattle.lister.proofs.fill.is_enough.Goals as goal

pub returns : goal.returns
returns g c =
    let z = (g.S.Solver.meaning c.args.solver.now).sizes in
    let C = circuit_of c.args.problem.now.circuit.now in
    let ts = tests_of c.args.problem.now.tests.now in
    let within : variables C ts c.args.problem.now.bound.value ≤ z.capacity = let v = c.variable_count.ensures in let a = c.capacity.ensures in let t = c.if-variable_count-capacity.false in omega arith in
    c.is_some.ensures ∙ weighed_enough C ts c.args.problem.now.bound.value (sets_of c.args.given.now) z _ _ _ c.width.ensures (ap Some c.full_room.ensures) within c.write_formula.ensures.took c.write_bars.ensures.took
