-- The inputs, the gates and the outputs of a test, as they are held; or the sink passes them all.
use Rattle.std.proofs.Common.{◌+◌, length, sym, ap, ◌∙◌, subst, arith, take, is_some, length-take}
use Rattle.std.proofs.lemmas.List.Sums.{count_by-le-length}
use Rattle.circuit.specs.Held.{circuit_of}
use Rattle.testlog.specs.Held.{test_of}
use Rattle.cnf_theory.specs.Literals.{integers}
use Rattle.cnf_theory.specs.Formula.{input_clauses, gates_clauses, output_clauses, test_clauses}
use Rattle.cnf.specs.Counted.{outputs_size}
use Rattle.cnf.proofs.Wrote.{wrote_both, wrote_as}
use Rattle.cnf.proofs.Pieces.{integers_length}
use Rattle.cnf.proofs.Held.{gates_fair, outputs_near, inputs_few, gates_few_held, test_length}
use Rattle.cnf.proofs.tests.write_test.Goals as goal

pub overflow_add-inputs : goal.overflow_add-inputs
overflow_add-inputs g c =
    let i = inputs_few c.args.test.now in
    let e = ap length c.inputs.ensures in
    let n = gates_few_held c.args.circuit.now in
    let h = c.requires.gates in
    omega arith

pub outputs_clause_count-outputs-requires : goal.outputs_clause_count-outputs-requires
outputs_clause_count-outputs-requires g c = (outputs_near c.args.circuit.now _ c.outputs.ensures).1

pub overflow_add-inputs-2 : goal.overflow_add-inputs-2
overflow_add-inputs-2 g c =
    let i = inputs_few c.args.test.now in
    let e = ap length c.inputs.ensures in
    let n = gates_few_held c.args.circuit.now in
    let h = c.requires.gates in
    let o = (outputs_near c.args.circuit.now _ c.outputs.ensures).1 in
    let f = c.outputs_clause_count-outputs.ensures in
    let few = count_by-le-length is_some (take (length c.outputs.result.now) c.outputs-2.result.now) in
    let t = length-take (length c.outputs.result.now) c.outputs-2.result.now in
    omega arith

pub returns-then-pass-clause-took : goal.returns-then-pass-clause-took
returns-then-pass-clause-took g c =
    let C = circuit_of c.args.circuit.now in
    let t = test_of c.args.test.now in
    let cs = test_clauses C c.args.variables.base t in
    let o = c.outputs_clause_count-outputs.ensures ∙ (λ j. outputs_size (c.outputs.ensures j) (c.outputs-2.ensures j)) in
    c.pass.ensures.passed c.if-pass.true (integers cs) (integers_length cs ∙ test_length c.args.circuit.now c.args.variables.base t ∙ sym (λ j. length (c.inputs.ensures j) + c.requires.gates j + o j))

pub write_gates-requires-clause-fair : goal.write_gates-requires-clause-fair
write_gates-requires-clause-fair g c = (gates_fair c.args.circuit.now _ c.gates.ensures).0

pub write_outputs-requires-clause-near : goal.write_outputs-requires-clause-near
write_outputs-requires-clause-near g c = (outputs_near c.args.circuit.now _ c.outputs-3.ensures).0

pub returns-clause-took : goal.returns-clause-took
returns-clause-took g c =
    let took = g.K.ClauseSink.took in
    let both = g.K.ClauseSink.both in
    let B = c.args.variables.base in
    let I = c.requires.inputs in
    subst (λ s. took s (integers (test_clauses (circuit_of c.args.circuit.now) B (test_of c.args.test.now))) c.write_outputs.new.sink) (c.pass.ensures.kept c.if-pass.false)
    (wrote_both took both _ _ _ _ _
    (wrote_both took both _ _ _ _ _
    (wrote_as took both _ _ _ _ (ap (input_clauses B 1) c.inputs-2.ensures) c.write_inputs.ensures.took)
    (wrote_as took both _ _ _ _ (λ j. gates_clauses B (I j) 1 (c.gates.ensures j)) c.write_gates.ensures.took))
    (wrote_as took both _ _ _ _ (λ j. output_clauses B (I j) (c.outputs-3.ensures j) (c.outputs-4.ensures j)) c.write_outputs.ensures.took))
