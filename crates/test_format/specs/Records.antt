-- Test records. A record has three groups of bits, each in whole bytes: a map of the outputs, with a 1 for each that was measured, then the
-- input values, then the values measured, in output order. I and O are the numbers of inputs and outputs.
--   measured        the values at the outputs that were measured, in output order
--   written         the record of a test
--   map_of          the map in a record
--   record_length   how many bytes a record takes, by its map
--   map_group, ..   the bytes of each group
--   clear           whether each bit of a group is 0, but for so many at its front
--   all_clear       whether each unused bit of a record is 0
--   filled          the outputs that a map and the values measured give
--   given           the test that a record gives
--   recorded        the tests held after one more record, or the refusal of it
--   Recorded        one test more is held: one of the circuit, that has these bytes for its record
use Rattle.std.specs.Prelude.{◌≡◌, ℕ, ◌+◌, Bool, true, false, cond, not, ◌&&◌, List, [], ◌∷◌, ◌++◌, map, length, take, drop, is_some, Some, None, Ok, Err, Option, Result, ◌==◌, nat_lt, slice_index_or}
use Rattle.refusal.specs.declared.Refusal.{Refusal}
use Rattle.refusal.specs.Asking.{numbered, ask}
use Rattle.std.specs.List.{list_all}
use Rattle.circuit.specs.Circuits.{Circuit}
use Rattle.circuit.specs.Tests.{Test, FitsTest}
use Rattle.test_format.specs.Packing.{unpack, bytes_for, pack}

-- ── from a test to its record ──
unfoldable pub measured : List (Option Bool) → List Bool
measured [] = []
measured (None ∷ os) = measured os
measured (Some v ∷ os) = v ∷ measured os

abbrev pub written : Test → List ℕ
written t = pack (map is_some t.outputs) ++ (pack t.inputs ++ pack (measured t.outputs))

-- ── from a record to its test ──
abbrev pub map_of : ℕ → List ℕ → List Bool
map_of O bytes = take O (unpack bytes)

unfoldable pub ones : List Bool → ℕ
ones [] = 0
ones (b ∷ bs) = cond b 1 0 + ones bs

-- bytes that end inside their map are fewer than the map alone takes, so never of this length
abbrev pub record_length : ℕ → ℕ → List ℕ → ℕ
record_length I O bytes = bytes_for O + bytes_for I + bytes_for (ones (map_of O bytes))

abbrev pub map_group : ℕ → List ℕ → List ℕ
map_group O bytes = take (bytes_for O) bytes

abbrev pub input_group : ℕ → ℕ → List ℕ → List ℕ
input_group I O bytes = take (bytes_for I) (drop (bytes_for O) bytes)

abbrev pub value_group : ℕ → ℕ → List ℕ → List ℕ
value_group I O bytes = drop (bytes_for I) (drop (bytes_for O) bytes)

abbrev pub clear : ℕ → List ℕ → Bool
clear n group = list_all not (drop n (unpack group))

abbrev pub all_clear : ℕ → ℕ → List ℕ → Bool
all_clear I O bytes = clear O (map_group O bytes) && (clear I (input_group I O bytes) && clear (ones (map_of O bytes)) (value_group I O bytes))

-- each output whose bit is set in the map has the next of the values; bytes of the right length have a value for each
unfoldable pub filled : List Bool → List Bool → List (Option Bool)
filled [] vs = []
filled (false ∷ ms) vs = None ∷ filled ms vs
filled (true ∷ ms) vs = Some (slice_index_or vs 0 false) ∷ filled ms (drop 1 vs)

abbrev pub given : ℕ → ℕ → List ℕ → Test
given I O bytes = record { inputs = take I (unpack (input_group I O bytes)); outputs = filled (map_of O bytes) (unpack (value_group I O bytes)) }

abbrev pub decoded : Circuit → List ℕ → Result Test Refusal
decoded c bytes =
    ask (numbered 12) (length bytes == record_length c.inputs (length c.outputs) bytes)
    (ask (numbered 13) (all_clear c.inputs (length c.outputs) bytes) (Ok (given c.inputs (length c.outputs) bytes)))

-- the tests held, and the test that was read at their end
abbrev pub joined_by : List Test → Result Test Refusal → Result (List Test) Refusal
joined_by ts (Ok t) = Ok (ts ++ t ∷ [])
joined_by ts (Err r) = Err r

abbrev pub recorded : Circuit → List Test → List ℕ → Result (List Test) Refusal
recorded c ts bytes = ask (numbered 11) (nat_lt (length ts) 32) (joined_by ts (decoded c bytes))

pub record Recorded (c : Circuit) (before after : List Test) (bytes : List ℕ) : Type 0 where
  pub test : Test
  pub last : after ≡ before ++ test ∷ []
  pub fits : FitsTest c test
  pub as_written : bytes ≡ written test
