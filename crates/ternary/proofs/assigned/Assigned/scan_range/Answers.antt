-- One clause more is true, or has an open literal.
use Rattle.std.proofs.Common.{◌+◌, ℤ, Some, Option, sym, ap, ◌∙◌, subst, w32, SFits, rules}
use Rattle.std.specs.Option.{option_or}
use Rattle.std.proofs.lemmas.Int.{to_z-of_z}
use Rattle.assignment.proofs.Statuses.{Scanned, scanned_satisfied, scanned_open}
use Rattle.ternary.proofs.assigned.Assigned.scan_range.Goals as goal
use Rattle.ternary.proofs.assigned.Assigned.scan_range.Goals.{in-Satisfied, in-Open}

pub loop-k-preserved : goal.loop-k-preserved
loop-k-preserved c =
    let vs = c.args.self.now.values.now in
    let xs = c.args.self.now.places.now in
    let from = c.args.from in
    let k = c.loop-k.k in
    elim c.match-clause_status.branch [
      | in-Satisfied w ↦ subst (λ (o : Option ℤ). Scanned vs xs from (k + 1) o) (sym w.open-is) (scanned_satisfied vs xs from k _ c.loop-k.invariant w.in-Satisfied.ensures)
      | in-Open w ↦
          let x = w.in-Open.literal in
          let fits : SFits w32 w.in-Open.literal = search rules in
          subst (λ (o : Option ℤ). Scanned vs xs from (k + 1) o) (sym (w.open-is ∙ w.or-open.ensures ∙ ap (λ (y : ℤ). option_or c.loop-k.open (Some y)) (to_z-of_z w32 x fits))) (scanned_open vs xs from k c.loop-k.open x c.loop-k.invariant w.in-Open.ensures)
    ]
