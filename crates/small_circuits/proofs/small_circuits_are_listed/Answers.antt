use Rattle.std.proofs.Common.{refl}
use Rattle.test_format.specs.Packing.{bits, unpack}
use Rattle.test_format.specs.Records.{ones, filled}
use Rattle.small_circuits.proofs.small_circuits_are_listed.Goals as goal

pub returns : goal.returns
unfolding bits unpack ones filled
returns c = refl
