use Rattle.std.proofs.Common.{not, [], ◌∷◌, map, take}
use Rattle.cnf_theory.specs.Literals.{signed, integers}
use Rattle.cnf.specs.Code.{numbers}
use Rattle.cnf.proofs.function.write_conjunction.Given as goal

abbrev pub invariant-loop-operand : goal.invariant-loop-operand
invariant-loop-operand g l = g.K.ClauseSink.ready l.sink × g.K.ClauseSink.took l.initial.sink (integers (map (λ a. signed (not l.value) l.l.number ∷ signed l.each a ∷ []) (numbers (take l.operand-index l.operand-items)))) l.sink
