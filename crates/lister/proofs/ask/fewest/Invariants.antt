use Rattle.std.proofs.Common.{◌≡◌, ℕ, suc, None}
use Rattle.solver.specs.Meaning.{Kept}
use Rattle.cnf_theory.specs.Variables.{count_variable}
use Rattle.answers.specs.Loaded.{NeverOff}
use Rattle.lister.proofs.ask.fewest.Given as goal

abbrev pub invariant-loop-k : goal.invariant-loop-k
invariant-loop-k g l =
    let m = g.S.Solver.meaning l.initial.solver in
    let n = g.S.Solver.meaning l.solver in
    g.S.Solver.sound l.solver × Kept m n × ((j : ℕ) → suc j ≡ l.k → NeverOff m (count_variable l.gates l.bound l.gates (suc j)) × (n.shown ≡ None))
