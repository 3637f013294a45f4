-- The marked gates are a set with those marks.
use Rattle.diagnosis.proofs.Marked.{marked_gates_set}
use Rattle.diagnosis.proofs.listing.marked_gates_are_a_set.Goals as goal

pub returns : goal.returns
returns c = marked_gates_set
