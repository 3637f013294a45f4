use Rattle.std.proofs.Common.{arith}
use Rattle.evaluate.proofs.GateCount.{gates_listed, few_gates}
use Rattle.evaluate.proofs.count.gate_count.Goals as goal

pub returns : goal.returns
returns c =
    let listed = gates_listed c.args.circuit.now c.gates.result.now c.gates.ensures in
    record { value = listed; few = omega (arith, listed, few_gates c.args.circuit.now) }
