-- The clauses of one gate after another.
use Rattle.std.proofs.Common.{◌≡◌, suc, ◌+◌, ◌++◌, map, take, sym, ap, ◌∙◌}
use Rattle.circuit.specs.Circuits.{gate_of}
use Rattle.cnf_theory.specs.Gates.{gate_clauses}
use Rattle.cnf_theory.specs.Formula.{gates_clauses}
use Rattle.cnf.proofs.Wrote.{wrote_both, wrote_as}
use Rattle.cnf.proofs.Pieces.{gates_more}
use Rattle.cnf.proofs.gates.write_gates.Goals as goal

pub loop-before-preserved : goal.loop-before-preserved
loop-before-preserved g c =
    let took = g.K.ClauseSink.took in
    let both = g.K.ClauseSink.both in
    let B = c.args.variables.base in
    let I = c.args.variables.inputs in
    let i = c.loop-before.before in
    let gs = c.args.gates.now in
    let gate = c.index-gates-before.result in
    let more : gates_clauses B I 1 (map gate_of (take i gs)) ++ gate_clauses B I (suc i) (gate_of gate) ≡ gates_clauses B I 1 (map gate_of (take (i + 1) gs)) = ap (λ x. gates_clauses B I 1 (map gate_of (take i gs)) ++ gate_clauses B I (suc i) (gate_of x)) c.index-gates-before.is ∙ sym (gates_more B I gs i gate c.loop-before-test.true) in
    (c.write_gate.ensures.ready, wrote_as took both _ _ _ _ more (wrote_both took both _ _ _ _ _ c.loop-before.invariant.1 c.write_gate.ensures.took))
