-- The clauses of one test after another.
use Rattle.std.proofs.Common.{◌≡◌, ◌+◌, ◌++◌, map, take, sym, ◌∙◌}
use Rattle.circuit.specs.Held.{circuit_of}
use Rattle.testlog.specs.Held.{test_of}
use Rattle.cnf_theory.specs.Formula.{test_clauses, tests_clauses}
use Rattle.cnf.proofs.Wrote.{wrote_both, wrote_as}
use Rattle.cnf.proofs.Held.{tests_more}
use Rattle.cnf.proofs.problem.Problem.write_tests.Goals as goal

pub loop-t-preserved : goal.loop-t-preserved
loop-t-preserved g c =
    let took = g.K.ClauseSink.took in
    let both = g.K.ClauseSink.both in
    let C = circuit_of c.args.self.now.circuit.now in
    let N = c.args.self.now.bound.value in
    let t = c.loop-t.t in
    let ts = c.tests-test-items.result.now in
    let test = c.test-item.result in
    let more : tests_clauses C N 0 (map test_of (take t ts)) ++ test_clauses C c.test_base.result (test_of test) ≡ tests_clauses C N 0 (map test_of (take (t + 1) ts)) = (λ j. tests_clauses C N 0 (map test_of (take t ts)) ++ test_clauses C (c.test_base.ensures.value j) (test_of (c.test-item.is j))) ∙ sym (tests_more C N ts t test c.loop-t-test.true) in
    (c.write_test.ensures.ready, wrote_as took both _ _ _ _ more (wrote_both took both _ _ _ _ _ c.loop-t.invariant.1 c.write_test.ensures.took))
