-- What the bit, the word and the doubtful value stand for.
--   lane      the bit of a word in a lane: bit i of the number in lane i
--   known     a doubtful value that is known stands for its bit, an unknown one for both
--   byte_of   0 or 1 for a known bit, 2 for both
use Rattle.std.specs.Prelude.{ℕ, ◌/◌, ◌%◌, ◌^◌, Bool, true, false, cond, ◌==◌}
use Rattle.signal_value.specs.declared.doubtful.Doubtful.{Doubtful}
use Rattle.signal_value.specs.declared.doubtful.Doubtful.TheVariants.{Zero, One, Unknown}
use Rattle.signal_value.specs.Possible.{Possible, only, both}

abbrev pub lane : ℕ → ℕ → Bool
lane w i = w / 2 ^ i % 2 == 1

abbrev pub known : Doubtful → Possible
known Zero = only false
known One = only true
known Unknown = both

abbrev pub byte_of : Possible → ℕ
byte_of (only b) = cond b 1 0
byte_of both = 2
