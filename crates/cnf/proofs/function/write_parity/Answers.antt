-- Four clauses, one for each row of two values.
use Rattle.cnf_theory.specs.Literals.{positive, negative}
use Rattle.cnf.proofs.Wrote.{four, third_is}
use Rattle.cnf.proofs.function.write_parity.Goals as goal

pub returns-clause-took : goal.returns-clause-took
returns-clause-took g c =
    let took = g.K.ClauseSink.took in
    let both = g.K.ClauseSink.both in
    let a = c.args.a.number in
    let b = c.args.b.number in
    four took both _ _ _ _ _ _ _ _ _
    (third_is took both _ _ (positive a) (positive b) _ _ c.take_clause.ensures.took c.with-even.ensures)
    (third_is took both _ _ (negative a) (positive b) _ _ c.take_clause-2.ensures.took c.with-uneven.ensures)
    (third_is took both _ _ (positive a) (negative b) _ _ c.take_clause-3.ensures.took c.with-uneven.ensures)
    (third_is took both _ _ (negative a) (negative b) _ _ c.take_clause-4.ensures.took c.with-even.ensures)
