-- The words of the first line, one after another.
use Rattle.std.proofs.Common.{◌^◌, ◌<◌, arith}
use Rattle.cnf_theory.specs.Dimacs.{head_line}
use Rattle.dimacs.proofs.Appending.{appended_both, filled}
use Rattle.dimacs.proofs.Lines.{head_short}
use Rattle.dimacs.proofs.text.head_line.Goals as goal

pub returns : goal.returns
returns c =
    let v = c.args.variables in
    let n = c.args.clauses in
    let a : v < 2 ^ 64 = omega arith in
    let b : n < 2 ^ 64 = omega arith in
    filled _ _ (head_line v n) c.new-text.ensures (head_short v n a b)
    (appended_both _ _ _ _ _
    (appended_both _ _ _ _ _ (appended_both _ _ _ _ _ c.push.ensures c.push_number.ensures.text) (appended_both _ _ _ _ _ c.push-2.ensures c.push_number-2.ensures.text))
    c.push-3.ensures)
