-- The tally of the formula.
use Rattle.circuit.specs.Held.{circuit_of}
use Rattle.cnf.proofs.Held.{sound_held}
use Rattle.cnf.proofs.Sized.{sized}
use Rattle.cnf.proofs.problem.Problem.formula_sizes.Goals as goal

pub returns : goal.returns
returns c =
    let p = c.args.self.now in
    let zero = c.default-tally.ensures in
    sized (circuit_of p.circuit.now) p.tests.now p.bound.value _ _ (sound_held p.circuit.now) p.bound.few zero.0 zero.1.0 zero.1.1 c.write_formula.ensures.took
