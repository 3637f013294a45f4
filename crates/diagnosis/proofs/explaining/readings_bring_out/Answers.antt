-- The byte of forced values brings out what they bring out.
use Rattle.diagnosis.proofs.ForcedByte.{readings_bring_out}
use Rattle.diagnosis.proofs.explaining.readings_bring_out.Goals as goal

pub returns : goal.returns
returns c = readings_bring_out
