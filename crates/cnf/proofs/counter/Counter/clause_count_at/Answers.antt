-- The clauses of one gate are counted.
use Rattle.std.proofs.Common.{◌≡◌, suc, ◌+◌, ◌*◌, length, ap, ◌∙◌, arith}
use Rattle.cnf_theory.specs.Counter.{count_at}
use Rattle.cnf.proofs.CounterLength.{first_gate, later_gate}
use Rattle.cnf.proofs.counter.Counter.clause_count_at.Goals as goal

pub returns-then-before-eq0 : goal.returns-then-before-eq0
returns-then-before-eq0 c =
    let G = c.args.self.gates in
    let N = c.args.self.bound.value in
    ap (λ b. length (count_at G N (suc b))) c.if-before-eq0.true ∙ first_gate G N

pub returns-else-before-eq0 : goal.returns-else-before-eq0
returns-else-before-eq0 c =
    let G = c.args.self.gates in
    let N = c.args.self.bound.value in
    let later = c.if-before-eq0.false in
    let v = c.value.ensures in
    let n : suc N ≡ c.value.result + 1 = omega arith in
    later_gate G N (suc c.args.before) (omega arith) ∙ ap (λ k. k * 2) n
