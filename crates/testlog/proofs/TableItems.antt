-- What a look at a table's elements says of the tests that they stand for.
use Rattle.std.proofs.Common.{◌≡◌, ℕ, ◌<◌, List, map, length, get_or, Some, ap, ◌∙◌}
use Rattle.std.specs.List.{slice_get}
use Rattle.std.specs.Option.{option_map}
use Rattle.std.proofs.lemmas.Option.{slice_get-map, slice_get_read}
use Rattle.testlog.specs.declared.test.Test.{Test}
use Rattle.testlog.specs.Held.{test_of}

-- the test at a place
pub held_at : (items : List Test) (i n : ℕ) (t : Test) → n ≡ length items → i < n → t ≡ get_or items i t → slice_get (map test_of items) i ≡ Some (test_of t)
held_at items i n t e h r = slice_get-map test_of items i ∙ ap (option_map test_of) (slice_get_read items n i t e h r)
