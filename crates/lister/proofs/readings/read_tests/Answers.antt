-- One test more.
use Rattle.std.proofs.Common.{◌≡◌, ℕ, min, List, length, sym, ap, ◌∙◌, subst, arith}
use Rattle.std.specs.List.{AllByRecursion}
use Rattle.std.proofs.lemmas.List.{length-take-le}
use Rattle.circuit.specs.Held.{circuit_of}
use Rattle.testlog.specs.Held.{tests_of}
use Rattle.cnf.proofs.Held.{sound_held}
use Rattle.cnf.proofs.Sized.{tests_held}
use Rattle.cnf_theory.specs.Variables.{base}
use Rattle.gate_set.specs.Held.{set_of}
use Rattle.lister.specs.Readings.{Readable}
use Rattle.lister.proofs.ReadingTests.{set_readable}
use Rattle.lister.proofs.readings.read_tests.Goals as goal

pub read_test-byte-requires : goal.read_test-byte-requires
read_test-byte-requires g c =
    let C = c.args.problem.now.circuit.now in
    let cc = circuit_of C in
    let N = c.args.problem.now.bound.value in
    let t = c.loop-t.t in
    let s = c.args.set.now in
    let V = (g.S.Solver.meaning c.args.solver.now).vars in
    let few = (sound_held C).few_gates in
    let inputs = (sound_held C).few_inputs in
    let is = c.inputs-inputs.ensures in
    let small = c.variables_before.ensures.small in
    let held = tests_held c.args.problem.now.tests.now in
    let few_tests = c.args.problem.now.tests.now.few in
    let now = c.len-t-end.ensures in
    let at : min t 32 ≡ t = omega arith in
    let before : c.variables_before.result ≡ base cc N t = c.variables_before.ensures.value ∙ ap (base cc N) at in
    let len = ap length c.as_slice.ensures ∙ length-take-le s.count s.places (let whole = s.whole in let few = s.few in omega arith) in
    let six = s.few in
    let known = set_readable cc N (length (tests_of c.args.problem.now.tests.now)) V few c.requires.vars t (set_of s) (omega arith) c.requires.set in
    record {
      sound = c.requires.sound;
      sizes = (omega arith, (omega arith, omega arith));
      reads = subst (λ (S : List ℕ). AllByRecursion (Readable V c.variables_before.result c.inputs-inputs.result) S) (sym c.as_slice.ensures) (subst (λ (b : ℕ). AllByRecursion (Readable V b c.inputs-inputs.result) (set_of s)) (sym before) (subst (λ (i : ℕ). AllByRecursion (Readable V (base cc N t) i) (set_of s)) (sym is) known));
    }
