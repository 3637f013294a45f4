use Rattle.std.proofs.Common.{refl}
use Rattle.std.specs.Fmt.{digits}
use Rattle.test_format.specs.Packing.{bits, unpack}
use Rattle.test_format.specs.Records.{ones, filled}
use Rattle.small_circuits.proofs.small_formulas_are_written.Goals as goal

pub returns : goal.returns
unfolding digits bits unpack ones filled
returns c = refl
