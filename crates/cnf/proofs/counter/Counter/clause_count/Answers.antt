-- The counter's clauses are counted.
use Rattle.std.proofs.Common.{◌≡◌, suc, ◌+◌, ◌-◌, ◌*◌, ap, ◌∙◌, arith}
use Rattle.cnf.proofs.CounterLength.{counter_length}
use Rattle.cnf.proofs.counter.Counter.clause_count.Goals as goal

pub returns : goal.returns
returns c =
    let G = c.args.self.gates in
    let N = c.args.self.bound.value in
    let e : G ≡ suc (G - 1) = omega arith in
    let v = c.value.ensures in
    let n : suc N ≡ c.value.result + 1 = omega arith in
    counter_length G N (G - 1) e ∙ ap (λ k. 1 + (G - 1) * (k * 2)) n
