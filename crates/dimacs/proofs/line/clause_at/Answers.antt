-- The pick holds the clause of its number, if there is one.
use Rattle.std.proofs.Common.{sym, ap, ◌∙◌}
use Rattle.std.specs.Option.{option_map}
use Rattle.inline_list.specs.Listed.{listed}
use Rattle.circuit.specs.Held.{circuit_of}
use Rattle.testlog.specs.Held.{tests_of}
use Rattle.cnf_theory.specs.Formula.{formula}
use Rattle.cnf_theory.proofs.Lengths.{nine_at_most}
use Rattle.cnf.proofs.Held.{sound_held}
use Rattle.dimacs.proofs.Lines.{found_of, picked_is}
use Rattle.dimacs.proofs.line.clause_at.Goals as goal

pub returns-in-Skipping : goal.returns-in-Skipping
returns-in-Skipping c =
    let p = c.args.problem.now in
    let C = circuit_of p.circuit.now in
    ap (λ k. option_map listed (found_of k)) (sym c.in-Skipping.is) ∙ picked_is (formula C (tests_of p.tests.now) p.bound.value) c.args.j _ (nine_at_most C (tests_of p.tests.now) p.bound.value (sound_held p.circuit.now)) c.write_formula.ensures.took

pub returns-in-Found : goal.returns-in-Found
returns-in-Found c =
    let p = c.args.problem.now in
    let C = circuit_of p.circuit.now in
    ap (λ k. option_map listed (found_of k)) (sym c.in-Found.is) ∙ picked_is (formula C (tests_of p.tests.now) p.bound.value) c.args.j _ (nine_at_most C (tests_of p.tests.now) p.bound.value (sound_held p.circuit.now)) c.write_formula.ensures.took
