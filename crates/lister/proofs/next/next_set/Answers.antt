-- What was asked, a solver filled, and the first set that its rows mark.
use Rattle.std.proofs.Common.{ℕ, ◌≤◌, length, Some, None, sym, ◌∙◌, subst, subst₂, arith}
use Rattle.std.proofs.lemmas.Bool.{cond-true}
use Rattle.circuit.specs.Held.{circuit_of}
use Rattle.testlog.specs.Held.{tests_of}
use Rattle.cnf.proofs.Held.{sound_held, gates_same}
use Rattle.cnf_theory.specs.Variables.{variables}
use Rattle.answers.proofs.Filling.{loaded_kept}
use Rattle.inline_list.specs.Listed.{listed, places_of}
use Rattle.inline_list.proofs.Few.{in_its_place}
use Rattle.gate_set.specs.Held.{set_of, sets_of}
use Rattle.lister.specs.NextSet.{FirstOf}
use Rattle.lister.proofs.Barring.{sets_numbers}
use Rattle.lister.proofs.FittingParts.{fitting_gate, fitting_given}
use Rattle.lister.proofs.Enough.{enough_parts}
use Rattle.lister.proofs.Nexts.{Counts, counted, next_is, found_set, found_readings}
use Rattle.lister.proofs.next.next_set.Goals as goal

pub is_enough-requires : goal.is_enough-requires
is_enough-requires g c =
    let C = c.args.problem.now.circuit.now in
    let ok = fitting_given (circuit_of C) (tests_of c.args.problem.now.tests.now) (sets_of c.args.given.now) (sound_held C) (sym c.if-not-is_fitting.ensures) in
    record { numbers = sets_numbers (length (circuit_of C).gates) _ (sound_held C).few_gates ok.sets }

pub fill-requires : goal.fill-requires
fill-requires g c =
    let C = c.args.problem.now.circuit.now in
    let ts = tests_of c.args.problem.now.tests.now in
    let given = sets_of c.args.given.now in
    let ok = fitting_given (circuit_of C) ts given (sound_held C) (sym c.if-not-is_fitting.ensures) in
    let (v, w, p) = enough_parts (circuit_of C) ts c.args.problem.now.bound.value given (g.S.Solver.meaning c.args.solver.now).sizes (sym c.if-not-is_enough.ensures) in
    record { sound = c.requires; fits = ok; capacity = v; width = w; room = p }

pub first-requires : goal.first-requires
first-requires g c =
    let C = c.args.problem.now.circuit.now in
    let ts = tests_of c.args.problem.now.tests.now in
    let given = sets_of c.args.given.now in
    let m = g.S.Solver.meaning c.fill.new.solver in
    let yes' = sym c.if-not-is_fitting.ensures in
    let some = fitting_gate (circuit_of C) ts given yes' in
    let few = (sound_held C).few_gates in
    let e = gates_same C _ c.gates.ensures in
    let b = c.value.ensures in
    let six = c.args.problem.now.bound.few in
    let known : Counts m (length c.gates.result.now) c.value.result = subst₂ (Counts m) (sym e) (sym b) (counted (circuit_of C) ts c.args.problem.now.bound.value given (fitting_given (circuit_of C) ts given (sound_held C) yes') _ m c.fill.ensures.loaded) in
    record {
      sound = c.fill.ensures.sound;
      sizes = (omega arith, (omega arith, omega arith));
      vars = (known.counts, known.gates);
      counts = known.bounded;
    }

pub read_tests-readings-requires : goal.read_tests-readings-requires
read_tests-readings-requires g c =
    let C = c.args.problem.now.circuit.now in
    let ts = tests_of c.args.problem.now.tests.now in
    let N = c.args.problem.now.bound.value in
    let given = sets_of c.args.given.now in
    let m = g.S.Solver.meaning c.fill.new.solver in
    let n = g.S.Solver.meaning c.first.new.solver in
    let S = set_of c.in-Some.set in
    let ok = fitting_given (circuit_of C) ts given (sound_held C) (sym c.if-not-is_fitting.ensures) in
    let e = gates_same C _ c.gates.ensures in
    let first : FirstOf m (length (circuit_of C).gates) N (Some S) n = subst₂ (λ (G k : ℕ). FirstOf m G k (Some S) n) e c.value.ensures c.in-Some.ensures.first in
    let vs = c.in-Some.ensures.kept.vars ∙ c.fill.ensures.loaded.vars in
    record {
      sound = c.in-Some.ensures.sound;
      set = found_set (circuit_of C) ts N given ok _ m c.fill.ensures.loaded S n first;
      vars = subst (λ (v : ℕ). variables (circuit_of C) ts N ≤ v) (sym vs) (omega arith);
    }

pub returns-in_default : goal.returns-in_default
returns-in_default g c =
    let C = c.args.problem.now.circuit.now in
    let ts = tests_of c.args.problem.now.tests.now in
    let N = c.args.problem.now.bound.value in
    let given = sets_of c.args.given.now in
    let m = g.S.Solver.meaning c.fill.new.solver in
    let n = g.S.Solver.meaning c.first.new.solver in
    let yes' = sym c.if-not-is_fitting.ensures in
    let e = gates_same C _ c.gates.ensures in
    let a = c.in_default.ensures in
    let first : FirstOf m (length (circuit_of C).gates) N None n = subst₂ (λ (G k : ℕ). FirstOf m G k None n) e c.value.ensures a.first in
    let ld = c.fill.ensures.loaded in
    record {
      refused = sym (cond-true _ _ _ yes' ∙ cond-true _ _ _ (sym c.if-not-is_enough.ensures));
      untouched = tt;
      loaded = loaded_kept _ _ _ m n ld a.kept;
      next = next_is (circuit_of C) ts N given (fitting_given (circuit_of C) ts given (sound_held C) yes') _ m ld None n first;
      readings = tt;
      sound = a.sound;
    }

pub returns : goal.returns
returns g c =
    let C = c.args.problem.now.circuit.now in
    let ts = tests_of c.args.problem.now.tests.now in
    let N = c.args.problem.now.bound.value in
    let given = sets_of c.args.given.now in
    let m = g.S.Solver.meaning c.fill.new.solver in
    let n = g.S.Solver.meaning c.first.new.solver in
    let S = set_of c.in-Some.set in
    let yes' = sym c.if-not-is_fitting.ensures in
    let ok = fitting_given (circuit_of C) ts given (sound_held C) yes' in
    let e = gates_same C _ c.gates.ensures in
    let a = c.in-Some.ensures in
    let first : FirstOf m (length (circuit_of C).gates) N (Some S) n = subst₂ (λ (G k : ℕ). FirstOf m G k (Some S) n) e c.value.ensures a.first in
    let ld = c.fill.ensures.loaded in
    let R = c.read_tests-readings.result in
    let few = c.read_tests-readings.ensures.len in
    let read = c.read_tests-readings.ensures.value in
    record {
      refused = sym (cond-true _ _ _ yes' ∙ cond-true _ _ _ (sym c.if-not-is_enough.ensures));
      untouched = tt;
      loaded = loaded_kept _ _ _ m n ld a.kept;
      next = next_is (circuit_of C) ts N given ok _ m ld (Some S) n first;
      readings = (
        few,
        found_readings (circuit_of C) ts N given ok _ m ld S n (listed R) first read,
        R.whole,
        found_readings (circuit_of C) ts N given ok _ m ld S n (places_of R) first (λ t l. in_its_place R t 0 (omega (arith, few, l)) ∙ read t l),
      );
      sound = a.sound;
    }
