-- Bits in bytes.
--   bits        so many of a number's bits, lowest first
--   number      the number that has these bits
--   unpack      the bits of bytes: eight of each, lowest first
--   bytes_for   the whole bytes that so many bits take
--   pack        bits in whole bytes, lowest first; the bits left over in the last byte are 0
--   is_byte     below 256
use Rattle.std.specs.Prelude.{ℕ, zero, suc, ◌+◌, ◌*◌, ◌/◌, ◌%◌, Bool, cond, List, [], ◌∷◌, ◌++◌, length, take, drop, ◌==◌, nat_lt}

unfoldable pub bits : ℕ → ℕ → List Bool
bits zero n = []
bits (suc k) n = (n % 2 == 1) ∷ bits k (n / 2)

unfoldable pub number : List Bool → ℕ
number [] = 0
number (b ∷ bs) = cond b 1 0 + 2 * number bs

unfoldable pub unpack : List ℕ → List Bool
unpack [] = []
unpack (byte ∷ bytes) = bits 8 byte ++ unpack bytes

abbrev pub bytes_for : ℕ → ℕ
bytes_for n = (n + 7) / 8

-- so many bytes, each of the next eight bits
unfoldable pub pack_into : ℕ → List Bool → List ℕ
pack_into zero bs = []
pack_into (suc k) bs = number (take 8 bs) ∷ pack_into k (drop 8 bs)

abbrev pub pack : List Bool → List ℕ
pack bs = pack_into (bytes_for (length bs)) bs

abbrev pub is_byte : ℕ → Bool
is_byte b = nat_lt b 256
