use Rattle.std.proofs.Common.{◌∙◌, ⊎_elim, arith}
use Rattle.evaluate.proofs.Numbered.{numbered_at, numbered_none, numbered_past}
use Rattle.evaluate.proofs.operand.at_number.Goals as goal

pub returns-then-number-values : goal.returns-then-number-values
returns-then-number-values g c = λ i h. numbered_at (λ v. g.L.Logic.stands v i) c.args.values.now c.args.number c.index-values-number.result (omega arith) (omega arith) c.index-values-number.is

pub returns-else-number-ge1 : goal.returns-else-number-ge1
returns-else-number-ge1 g c = λ i h.
    c.constant.ensures i h
    ∙ ⊎_elim
    (λ past. numbered_past (λ v. g.L.Logic.stands v i) c.args.values.now c.args.number past.1)
    (λ none. numbered_none (λ v. g.L.Logic.stands v i) c.args.values.now c.args.number none)
    c.else-number-ge1.either
