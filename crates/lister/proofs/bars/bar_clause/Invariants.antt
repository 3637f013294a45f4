use Rattle.std.proofs.Common.{◌≡◌, map, take}
use Rattle.inline_list.specs.Listed.{listed}
use Rattle.gate_set.specs.Held.{set_of}
use Rattle.cnf_theory.specs.Literals.{integer}
use Rattle.candidates.specs.Added.{barring}
use Rattle.lister.proofs.bars.bar_clause.Given as goal

abbrev pub invariant-loop-gate : goal.invariant-loop-gate
invariant-loop-gate l = listed l.clause ≡ map integer (barring (take l.gate-index (set_of l.set)))
