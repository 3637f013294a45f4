-- The test stops at its first part, or is that of the second.
use Rattle.std.proofs.Common.{rules, not, ◌||◌, eqb, sym, ap, ◌∙◌}
use lib.Bits.{bit_and}
use Rattle.std.proofs.lemmas.Bool.{ne_eqb, eq-eqb}
use Rattle.row_walker.proofs.Clauses.{some_tested}
use Rattle.row_walker.proofs.clause.Clause.some_true.Goals as goal

pub returns-then-row-self-ne0 : goal.returns-then-row-self-ne0
returns-then-row-self-ne0 c =
    let n = c.args.row in
    let k = c.args.self in
    let e = ne_eqb (bit_and n k.positive) 0 c.if-row-self-ne0.true in
    ap not e ∙ sym (ap (λ b. not b || not (eqb (bit_and n k.negative) k.negative)) e) ∙ some_tested n k (search rules) (search rules)

pub returns-else-row-self-ne0 : goal.returns-else-row-self-ne0
returns-else-row-self-ne0 c =
    let n = c.args.row in
    let k = c.args.self in
    let e = eq-eqb (bit_and n k.positive) 0 c.if-row-self-ne0.false in
    sym (ap (λ b. not b || not (eqb (bit_and n k.negative) k.negative)) e) ∙ some_tested n k (search rules) (search rules)
