-- For each count the carry and then the step.
use Rattle.std.proofs.Common.{◌≡◌, ℕ, suc, List, ◌++◌, ap, subst, arith}
use Rattle.std.specs.List.{flat_map}
use Rattle.cnf_theory.specs.Literals.{Clause, integers}
use Rattle.cnf_theory.specs.Counter.{from, carry, step}
use Rattle.cnf.proofs.Wrote.{wrote_more, wrote_both, wrote_as}
use Rattle.cnf.proofs.counter.Counter.write_count_at.Goals as goal

pub loop-j-preserved : goal.loop-j-preserved
loop-j-preserved g c =
    let took = g.K.ClauseSink.took in
    let both = g.K.ClauseSink.both in
    let f : ℕ → List Clause = λ k. carry c.args.self.gates c.args.self.bound.value (suc c.args.before) k ++ step c.args.self.gates c.args.self.bound.value (suc c.args.before) k in
    (c.write_step.ensures.ready, wrote_more took both _ _ _ f c.loop-j.j c.loop-j.invariant.1 (wrote_both took both _ _ _ _ _ c.write_carry.ensures.took c.write_step.ensures.took))

pub returns-clause-took : goal.returns-clause-took
returns-clause-took g c =
    let f : ℕ → List Clause = λ k. carry c.args.self.gates c.args.self.bound.value (suc c.args.before) k ++ step c.args.self.gates c.args.self.bound.value (suc c.args.before) k in
    let v = c.value-j-end.ensures in
    let e : c.loop-j.j ≡ suc c.args.self.bound.value = omega arith in
    subst (λ s. g.K.ClauseSink.took s (integers (flat_map f (from 1 (suc c.args.self.bound.value)))) c.loop-j.sink) (c.pass.ensures.kept c.if-pass.false) (wrote_as g.K.ClauseSink.took g.K.ClauseSink.both _ _ _ _ (ap (λ n. flat_map f (from 1 n)) e) c.loop-j.invariant.1)
