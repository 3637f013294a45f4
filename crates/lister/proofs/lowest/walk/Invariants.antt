use Rattle.std.proofs.Common.{◌≡◌}
use Rattle.diagnosis.specs.Marked.{marked}
use Rattle.solver.specs.Meaning.{Kept}
use Rattle.answers.specs.Assumed.{decided, Assumed}
use Rattle.gate_set.specs.Held.{set_of}
use Rattle.lister.proofs.lowest.walk.Given as goal

abbrev pub invariant-loop-g : goal.invariant-loop-g
invariant-loop-g g l =
    let m = g.S.Solver.meaning l.initial.solver in
    g.S.Solver.sound l.solver × Kept m (g.S.Solver.meaning l.solver) × Assumed m l.count l.g l.assumed × (set_of l.set ≡ marked (decided l.assumed) l.g)
