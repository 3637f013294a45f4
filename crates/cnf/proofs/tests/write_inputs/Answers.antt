-- One literal for each input.
use Rattle.std.proofs.Common.{sym, ap, ◌∙◌}
use Rattle.cnf_theory.specs.Literals.{signed}
use Rattle.cnf.proofs.Wrote.{wrote_both, wrote_as, one_is}
use Rattle.cnf.proofs.Held.{input_more}
use Rattle.cnf.proofs.tests.write_inputs.Goals as goal

pub loop-before-preserved : goal.loop-before-preserved
loop-before-preserved g c =
    let took = g.K.ClauseSink.took in
    let both = g.K.ClauseSink.both in
    let more = input_more c.args.variables.base c.args.inputs.now c.loop-before.before _ c.loop-before-test.true in
    (c.take_clause.ensures.ready, wrote_as took both _ _ _ _ (sym more) (wrote_both took both _ _ _ _ _ c.loop-before.invariant.1 (one_is took both _ _ _ _ c.take_clause.ensures.took (c.with.ensures ∙ ap (signed _) c.input.ensures))))
