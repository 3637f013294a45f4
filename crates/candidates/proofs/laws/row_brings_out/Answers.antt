-- What a row forces in a test, read as a byte, brings out the test.
use Rattle.candidates.proofs.ReadingsOfRows.{row_brings_out}
use Rattle.candidates.proofs.laws.row_brings_out.Goals as goal

pub returns : goal.returns
returns c = row_brings_out
