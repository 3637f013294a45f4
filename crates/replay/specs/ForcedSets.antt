-- The values forced on a set, gate by gate.
--   forced_bits      the gates of a set, each with its bit of a byte: bit i, counted from 0, at gate i
--   forced_unknown   the gates of a set, each with the unknown value
use Rattle.std.specs.Prelude.{ℕ, ◌/◌, ◌%◌, Bool, List, [], ◌∷◌, map, ◌==◌}
use Rattle.signal_value.specs.declared.doubtful.Doubtful.{Doubtful}
use Rattle.signal_value.specs.declared.doubtful.Doubtful.TheVariants.{Unknown}
use Rattle.evaluate.specs.declared.forced.Forced.{Forced}

abbrev pub forced_bits : List ℕ → ℕ → List (Forced Bool)
forced_bits [] b = []
forced_bits (x ∷ S) b = (record { gate = x; value = (b % 2 == 1) }) ∷ forced_bits S (b / 2)

abbrev pub forced_unknown : List ℕ → List (Forced Doubtful)
forced_unknown S = map (λ x. record { gate = x; value = Unknown }) S
