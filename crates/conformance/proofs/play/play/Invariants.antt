-- The solver stays sound.
use Rattle.conformance.proofs.play.play.Given as goal

abbrev pub invariant-loop : goal.invariant-loop
invariant-loop g l = g.S.Solver.sound l.solver
