use Rattle.std.proofs.Common.{◌≡◌, suc, Some, ap, ◌∙◌, arith}
use Rattle.std.proofs.lemmas.Bool.Decides.{nat_tests}
use Rattle.netlist.proofs.Found.{name_here}
use Rattle.netlist.proofs.names.name_at.Goals as goal

pub returns : goal.returns
returns c =
    let k = c.in_ok-checked_sub.field-0 in
    let one : c.args.number ≡ suc k = grind (arith, nat_tests) in
    let at = c.in_ok-name.ensures.lookup in
    ap Some c.as_bytes.ensures ∙ name_here c.args.names.now c.args.number k c.in_ok-name.name.now one at.3.0 at.1
