use Rattle.cnf_theory.specs.Variables.{forced_variable}
use Rattle.lister.specs.Readings.{told}
use Rattle.lister.proofs.ReadingBytes.{ReadSoFar}
use Rattle.lister.proofs.readings.read_test.Given as goal

abbrev pub invariant-loop-gate : goal.invariant-loop-gate
invariant-loop-gate g l = ReadSoFar l.gates l.gate-iterator.iter.rest.now (λ x. told (g.S.Solver.meaning l.solver).shown (forced_variable l.base l.inputs x)) l.byte
