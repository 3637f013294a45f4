-- The clauses so far are added, and what is asked of the others is what was asked of all.
use Rattle.std.proofs.Common.{◌≡◌, take, drop}
use Rattle.satisfy.specs.Clauses.{Narrowed, adds_refusal}
use Rattle.satisfy.proofs.add_all.Given as goal

abbrev pub invariant-loop-clause : goal.invariant-loop-clause
invariant-loop-clause g l =
    let m = g.S.Solver.meaning l.initial.solver in
    let n = g.S.Solver.meaning l.solver in
    g.S.Solver.sound l.solver × Narrowed m (take l.clause-index l.clauses) n × (adds_refusal m.sizes m.vars m.room l.clauses ≡ adds_refusal m.sizes m.vars n.room (drop l.clause-index l.clauses))
