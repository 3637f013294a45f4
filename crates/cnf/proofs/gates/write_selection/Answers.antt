-- Four clauses, one after another.
use Rattle.cnf.proofs.Wrote.{four}
use Rattle.cnf.proofs.gates.write_selection.Goals as goal

pub returns-clause-took : goal.returns-clause-took
returns-clause-took g c = four g.K.ClauseSink.took g.K.ClauseSink.both _ _ _ _ _ _ _ _ _ c.take_clause.ensures.took c.take_clause-2.ensures.took c.take_clause-3.ensures.took c.take_clause-4.ensures.took
