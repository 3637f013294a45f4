-- The clauses of the next output, and those of the ones behind it.
use Rattle.std.proofs.Common.{◌≡◌, ◌++◌, sym, subst, ⊎_elim, inl, inr}
use Rattle.std.specs.List.{AllByRecursion}
use Rattle.cnf_theory.specs.Formula.{measured_clauses, output_clauses}
use Rattle.cnf.specs.Code.{Near}
use Rattle.cnf.proofs.Wrote.{wrote_both, wrote_as}
use Rattle.cnf.proofs.Held.{outputs_end}
use Rattle.cnf.proofs.tests.write_outputs.Goals as goal

pub loop-output-preserved : goal.loop-output-preserved
loop-output-preserved g c =
    let took = g.K.ClauseSink.took in
    let both = g.K.ClauseSink.both in
    let B = c.args.variables.base in
    let I = c.args.variables.inputs in
    let rest = c.next.new.self in
    let s = c.in-Some.ensures.steps in
    let next : measured_clauses B I c.in-Some.output.now c.in-Some.value.now ++ output_clauses B I rest.a.rest.now rest.b.rest.now ≡ output_clauses B I c.loop-output.output-iterator.a.rest.now c.loop-output.output-iterator.b.rest.now = λ j. output_clauses B I (sym s.0 j) (sym s.1 j) in
    (c.write_measured.ensures.ready, (subst (AllByRecursion Near) s.0 c.loop-output.invariant.1).1, λ t h. c.loop-output.invariant.2 t (wrote_as took both _ _ _ _ next (wrote_both took both _ _ _ _ _ c.write_measured.ensures.took h)))

pub returns-clause-took : goal.returns-clause-took
returns-clause-took g c =
    let left = c.loop-output.output-iterator in
    let end = outputs_end c.args.variables.base c.args.variables.inputs left.a.rest.now left.b.rest.now (⊎_elim (λ x. inl x.1.0) (λ x. inr x.1.0) c.in-None.ensures.steps) in
    c.loop-output.invariant.2 _ (wrote_as g.K.ClauseSink.took g.K.ClauseSink.both _ _ _ _ end (g.K.ClauseSink.none _ c.loop-output.invariant.0))
