-- Every row of a new table is allowed.
use Rattle.std.proofs.Common.{true, false, refl}
use Rattle.std.proofs.lemmas.List.{get_or-replicate}
use Rattle.conformance.proofs.model.Model.new.Goals as goal

pub returns-clause-fresh : goal.returns-clause-fresh
returns-clause-fresh c = record { vars = refl; room = refl; every = λ n h. get_or-replicate 1024 n true false h; shown = refl }
