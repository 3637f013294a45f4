use Rattle.std.proofs.Common.{map, take}
use Rattle.cnf_theory.specs.Literals.{integers}
use Rattle.candidates.specs.Added.{barring}
use Rattle.gate_set.specs.Held.{sets_of}
use Rattle.lister.proofs.bars.write_bars.Given as goal

abbrev pub invariant-loop-set : goal.invariant-loop-set
invariant-loop-set g l = g.K.ClauseSink.ready l.sink × g.K.ClauseSink.took l.initial.sink (integers (map barring (sets_of (take l.set-index l.sets)))) l.sink
