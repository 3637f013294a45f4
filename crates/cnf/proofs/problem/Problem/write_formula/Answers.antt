-- The counter, its limit, and the tests.
use Rattle.cnf_theory.specs.Counter.{counter, limit}
use Rattle.cnf.proofs.Wrote.{wrote_both, wrote_as}
use Rattle.cnf.proofs.Held.{gates_same}
use Rattle.cnf.proofs.problem.Problem.write_formula.Goals as goal

pub returns-clause-took : goal.returns-clause-took
returns-clause-took g c =
    let took = g.K.ClauseSink.took in
    let both = g.K.ClauseSink.both in
    let N = c.args.self.now.bound.value in
    let e = gates_same c.args.self.now.circuit.now _ c.gates.ensures in
    wrote_both took both _ _ _ _ _
    (wrote_both took both _ _ _ _ _ (wrote_as took both _ _ _ _ (λ j. counter (e j) N) c.write.ensures.took) (wrote_as took both _ _ _ _ (λ j. limit (e j) N N) c.write_limit.ensures.took))
    c.write_tests.ensures.took
