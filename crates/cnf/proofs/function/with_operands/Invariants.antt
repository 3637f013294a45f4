use Rattle.std.proofs.Common.{◌≡◌, ◌∷◌, map, take}
use Rattle.inline_list.specs.Listed.{listed}
use Rattle.cnf_theory.specs.Literals.{signed, integer}
use Rattle.cnf.specs.Code.{literal_of, numbers}
use Rattle.cnf.proofs.function.with_operands.Given as goal

abbrev pub invariant-loop-operand : goal.invariant-loop-operand
invariant-loop-operand l = listed l.clause ≡ map integer (literal_of l.fn.first ∷ map (signed l.value) (numbers (take l.operand-index l.operand-items)))
