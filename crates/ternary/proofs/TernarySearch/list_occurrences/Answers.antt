-- One place more is on a list, or holds no literal.
use Rattle.std.proofs.Common.{◌+◌, ◌*◌, ◌≤◌, length, sym, subst, length-set}
use Rattle.ternary.specs.declared.TernarySearch.{TernarySearch}
use Rattle.ternary.specs.Stands.{Sound}
use Rattle.ternary.specs.Search.{Same}
use Rattle.ternary.proofs.TernarySearch.list_occurrences.Goals as goal
use Rattle.ternary.proofs.TernarySearch.list_occurrences.Goals.{then-v-gt0+then-v-vars, else-v-gt0}

pub loop-e-preserved : goal.loop-e-preserved
loop-e-preserved c =
    let g = c.loop-e.invariant.0 in
    let e = c.loop-e.invariant.1 in
    let M : TernarySearch → Type 0 = λ t. Sound t × Same c.args.self.now t × (c.args.self.now.vars + 3 * c.args.self.now.count ≤ length t.occurrences.now) in
    elim c.if-v-gt0.branch [
      | then-v-gt0+then-v-vars w ↦ subst M (sym w.self-is) (
        record { clauses_len = g.clauses_len; values_len = g.values_len; trail_len = g.trail_len; decisions_len = g.decisions_len; counts = g.counts; in_range = g.in_range; small = g.small; literals = g.literals },
        record { clauses = e.clauses; limit = e.limit; vars = e.vars; count = e.count; room = e.room },
        simp length-set c.loop-e.invariant.2,
      )
      | else-v-gt0 w ↦ subst M (sym w.self-is) c.loop-e.invariant
    ]
