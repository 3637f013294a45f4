-- What forced values bring out is what was measured.
use Rattle.diagnosis.proofs.Measured.{brings_out_measured}
use Rattle.diagnosis.proofs.explaining.brings_out_what_was_measured.Goals as goal

pub returns : goal.returns
returns c = brings_out_measured
