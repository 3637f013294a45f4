-- The test stops at its first part, or is that of the second.
use Rattle.std.proofs.Common.{rules, ◌&&◌, eqb, sym, ap, ◌∙◌}
use lib.Bits.{bit_and}
use Rattle.std.proofs.lemmas.Bool.{ne_eqb, eq-eqb}
use Rattle.row_walker.proofs.Clauses.{all_tested}
use Rattle.row_walker.proofs.clause.Clause.all_true.Goals as goal

pub returns-then-row-self : goal.returns-then-row-self
returns-then-row-self c =
    let n = c.args.row in
    let k = c.args.self in
    let e = eq-eqb (bit_and n k.positive) k.positive c.if-row-self.true in
    sym (ap (λ b. b && eqb (bit_and n k.negative) 0) e) ∙ all_tested n k (search rules) (search rules)

pub returns-else-row-self : goal.returns-else-row-self
returns-else-row-self c =
    let n = c.args.row in
    let k = c.args.self in
    let e = ne_eqb (bit_and n k.positive) k.positive c.if-row-self.false in
    e ∙ sym (ap (λ b. b && eqb (bit_and n k.negative) 0) e) ∙ all_tested n k (search rules) (search rules)
