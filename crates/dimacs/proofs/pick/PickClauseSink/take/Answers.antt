-- The clause that none is to pass before is held, its first nine literals.
use Rattle.std.proofs.Common.{◌≡◌, ℕ, length, take, min, ap, ◌∙◌, arith, rules}
use Rattle.std.proofs.lemmas.List.{take_min}
use Rattle.dimacs.specs.PickedLaws.{picked_here}
use Rattle.dimacs.specs.declared.pick.Pick.TheVariants.{Skipping}
use Rattle.dimacs.proofs.pick.PickClauseSink.take.Goals as goal

pub returns-in-Ok-clause-took : goal.returns-in-Ok-clause-took
returns-in-Ok-clause-took c =
    let zero : c.in-Skipping.left ≡ 0 = omega arith in
    let same : c.min.result ≡ min 9 (length c.args.clause.now) = search rules in
    picked_here c.args.self.now c.in-Ok.literals c.args.clause.now (c.in-Skipping.is ∙ ap Skipping zero) (c.in-Ok.ensures.listed ∙ ap (λ (n : ℕ). take n c.args.clause.now) same ∙ take_min 9 c.args.clause.now)
