-- Logs: records end to end, each cut off by its map.
--   first_record   the first piece of a log: as long as its map requires, or all there is where that is less, or where a record takes no byte
--   after_first    what follows it
--   pieces         all pieces, in order
use Rattle.std.specs.Prelude.{ℕ, zero, suc, cond, List, [], ◌∷◌, length, take, drop, ◌==◌}
use Rattle.circuit.specs.Circuits.{Circuit}
use Rattle.test_format.specs.Records.{record_length}

-- how many bytes the map at the front of a log requires
abbrev pub required : Circuit → List ℕ → ℕ
required c log = record_length c.inputs (length c.outputs) log

abbrev pub first_record : Circuit → List ℕ → List ℕ
first_record c log = cond (required c log == 0) log (take (required c log) log)

abbrev pub after_first : Circuit → List ℕ → List ℕ
after_first c log = cond (required c log == 0) [] (drop (required c log) log)

-- at most so many pieces
unfoldable pub pieces_in : ℕ → Circuit → List ℕ → List (List ℕ)
pieces_in zero c log = []
pieces_in (suc k) c [] = []
pieces_in (suc k) c (b ∷ log) = first_record c (b ∷ log) ∷ pieces_in k c (after_first c (b ∷ log))

-- each piece has a byte, so there are no more pieces than bytes
abbrev pub pieces : Circuit → List ℕ → List (List ℕ)
pieces c log = pieces_in (length log) c log
