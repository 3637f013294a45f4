-- The solver was begun, and took the formula and then the barring clauses.
use Rattle.std.proofs.Common.{ℕ, map, length, subst}
use Rattle.circuit.specs.Held.{circuit_of}
use Rattle.testlog.specs.Held.{tests_of}
use Rattle.solver.specs.Meaning.{Begun}
use Rattle.cnf_theory.specs.Variables.{variables}
use Rattle.cnf_theory.specs.Formula.{formula}
use Rattle.answers.proofs.Filling.{filled, loaded, fed_pieces}
use Rattle.candidates.specs.Added.{barring, added}
use Rattle.candidates.proofs.WithinVariables.{added_within_variables}
use Rattle.gate_set.specs.Held.{sets_of}
use Rattle.lister.proofs.Barring.{sets_numbers}
use Rattle.lister.proofs.fill.fill.Goals as goal

pub write_bars-requires : goal.write_bars-requires
write_bars-requires g c = record { ready = c.write_formula.ensures.ready; numbers = sets_numbers (length (circuit_of c.args.problem.now.circuit.now).gates) _ c.requires.fits.circuit.few_gates c.requires.fits.sets }

pub returns : goal.returns
returns g c =
    let C = circuit_of c.args.problem.now.circuit.now in
    let ts = tests_of c.args.problem.now.tests.now in
    let N = c.args.problem.now.bound.value in
    let given = sets_of c.args.given.now in
    let V = variables C ts N in
    let cs = added C ts N given in
    let b = g.S.Solver.meaning c.args.solver.now in
    let within = added_within_variables C ts N given c.requires.fits in
    let begun : Begun b V (g.S.Solver.meaning c.begin_with.new.solver) = subst (λ (v : ℕ). Begun b v (g.S.Solver.meaning c.begin_with.new.solver)) c.variable_count.ensures c.begin_with.ensures.begun in
    let fed = fed_pieces _ _ _ (formula C ts N) (map barring given) c.write_formula.ensures.took c.write_bars.ensures.took in
    record { sound = c.write_bars.ensures.ready; loaded = loaded b.sizes V cs _ within (filled b _ _ V cs begun within c.requires.width c.requires.room fed) }
