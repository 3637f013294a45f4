-- The bits of all tests side by side.
--   column    the bit of each test at one input, counted from 0
--   in_test   the bits of a test, out of words that hold all tests
use Rattle.std.specs.Prelude.{ℕ, Bool, false, List, map, slice_index_or}
use Rattle.circuit.specs.Tests.{Test}
use Rattle.signal_value.specs.declared.word.Word.{Word}
use Rattle.signal_value.specs.Kept.{lane}

abbrev pub column : List Test → ℕ → List Bool
column ts input = map (λ t. slice_index_or t.inputs input false) ts

abbrev pub in_test : ℕ → List Word → List Bool
in_test t ws = map (λ w. lane w.0 t) ws
