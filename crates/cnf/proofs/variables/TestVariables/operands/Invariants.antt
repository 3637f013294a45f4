use Rattle.std.proofs.Common.{◌≡◌, map, take}
use Rattle.inline_list.specs.Listed.{listed}
use Rattle.cnf_theory.specs.Variables.{signal_variable}
use Rattle.cnf.specs.Code.{numbers}
use Rattle.cnf.proofs.variables.TestVariables.operands.Given as goal

abbrev pub invariant-loop-operand : goal.invariant-loop-operand
invariant-loop-operand l = numbers (listed l.variables) ≡ map (signal_variable l.self.base l.self.inputs) (take l.operand-index l.operand-items)
