-- What a value stands for in one lane: one bit, or both.
--   Possible   one bit only, or both bits
--   includes   whether a bit is among them
--   image      the bits that a function gives for one of these bits
--   image2     the bits that a function gives for one of these bits and one of those
use Rattle.std.specs.Prelude.{Bool, true, false, cond}
use Rattle.std.specs.Bool.{beq}

pub data Possible : Type 0 where
  only : Bool → Possible
  both : Possible

abbrev pub includes : Possible → Bool → Bool
includes (only b) x = beq b x
includes both x = true

-- the bits of one or of the other
abbrev pub either : Possible → Possible → Possible
either both Q = both
either (only p) both = both
either (only p) (only q) = cond (beq p q) (only p) both

abbrev pub image : (Bool → Bool) → Possible → Possible
image f (only p) = only (f p)
image f both = either (only (f false)) (only (f true))

abbrev pub image2 : (Bool → Bool → Bool) → Possible → Possible → Possible
image2 f (only p) Q = image (f p) Q
image2 f both Q = either (image (f false) Q) (image (f true) Q)
