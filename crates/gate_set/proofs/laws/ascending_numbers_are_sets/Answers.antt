-- Ascending numbers are sets.
use Rattle.gate_set.proofs.AscendingNumbers.{ascending_numbers_sets}
use Rattle.gate_set.proofs.laws.ascending_numbers_are_sets.Goals as goal

pub returns : goal.returns
returns c = ascending_numbers_sets
