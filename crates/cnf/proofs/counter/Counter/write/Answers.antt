-- The counts of one gate after another; or the sink passes them all.
use Rattle.std.proofs.Common.{sym, ap, add-one}
use Rattle.cnf_theory.specs.Counter.{count_at}
use Rattle.cnf.proofs.Wrote.{wrote_more, wrote_as}
use Rattle.cnf.proofs.counter.Counter.write.Goals as goal

pub loop-before-preserved : goal.loop-before-preserved
loop-before-preserved g c =
    let took = g.K.ClauseSink.took in
    let both = g.K.ClauseSink.both in
    let f = count_at c.args.self.gates c.args.self.bound.value in
    (c.write_count_at.ensures.ready, wrote_more took both _ _ _ f c.loop-before.before c.loop-before.invariant.1 (wrote_as took both _ _ _ _ (ap f (sym (add-one _))) c.write_count_at.ensures.took))
