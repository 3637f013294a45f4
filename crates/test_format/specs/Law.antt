-- The laws of records and logs.
--   RecordReadsBack   the record of any test of a circuit is taken, and gives that test
--   TakenIsWritten    bytes that are taken are the record of the test that they give, and this is a test of the circuit
--   Cut               pieces cut from a log: joined they are the log again, each has a byte, each but the last is as long as its map
--                       requires, and no piece is longer
--   LogIsCut       the pieces of any log are so cut from it, and there is no other way to cut it
--   LogReadsBack   records end to end are cut into the same records
--   AmendsOne      amending changes the output named, to what was handed in, and nothing else
--   StrikesLast    striking undoes the last record, whatever it was
--   TestsStayFit   where the tests held are tests of the circuit, they are so after a record, an amendment or a strike
use Rattle.std.specs.Prelude.{◌≡◌, ℕ, ◌+◌, ◌<◌, ◌≤◌, true, List, [], ◌∷◌, ◌++◌, map, length, Ok, Err, slice_index_or}
use Rattle.std.specs.List.{flat_map, AllByRecursion}
use Rattle.std.specs.List.{list_all}
use Rattle.refusal.specs.Asking.{numbered}
use Rattle.circuit.specs.Circuits.{Circuit}
use Rattle.circuit.specs.Tests.{Test, FitsTest}
use Rattle.test_format.specs.Packing.{is_byte}
use Rattle.test_format.specs.Records.{written, decoded, recorded}
use Rattle.test_format.specs.Logs.{required, pieces}
use Rattle.test_format.specs.Amending.{amended, Amended, struck}

abbrev pub RecordReadsBack : Type 0
RecordReadsBack = (c : Circuit) (t : Test) → FitsTest c t → decoded c (written t) ≡ Ok t

abbrev pub TakenIsWritten : Type 0
TakenIsWritten = (c : Circuit) (bytes : List ℕ) (t : Test) → list_all is_byte bytes ≡ true → decoded c bytes ≡ Ok t → FitsTest c t × (bytes ≡ written t)

-- so that a record takes at least one byte
abbrev pub HasSignals : Circuit → Type 0
HasSignals c = 0 < c.inputs + length c.outputs

pub record Cut (c : Circuit) (log : List ℕ) (ps : List (List ℕ)) : Type 0 where
  pub none_lost : flat_map (λ p. p) ps ≡ log
  pub none_empty : (i : ℕ) → i < length ps → 0 < length (slice_index_or ps i [])
  pub whole : (i : ℕ) → i + 1 < length ps → length (slice_index_or ps i []) ≡ required c (slice_index_or ps i [])
  pub none_longer : HasSignals c → (i : ℕ) → i < length ps → length (slice_index_or ps i []) ≤ required c (slice_index_or ps i [])

abbrev pub LogIsCut : Type 0
LogIsCut = (c : Circuit) (log : List ℕ) → Cut c log (pieces c log) × ((ps : List (List ℕ)) → HasSignals c → Cut c log ps → ps ≡ pieces c log)

abbrev pub LogReadsBack : Type 0
LogReadsBack = (c : Circuit) (ts : List Test) → HasSignals c → AllByRecursion (FitsTest c) ts → pieces c (flat_map written ts) ≡ map written ts

abbrev pub AmendsOne : Type 0
AmendsOne = (ts us : List Test) (k o n : ℕ) → amended ts k o n ≡ Ok us → Amended ts us k o n

abbrev pub StrikesLast : Type 0
StrikesLast = ((ts : List Test) (t : Test) → struck (ts ++ t ∷ []) ≡ Ok ts) × (struck [] ≡ Err (numbered 15))

pub record StayFit (c : Circuit) (ts us : List Test) : Type 0 where
  pub after_record : (bytes : List ℕ) → recorded c ts bytes ≡ Ok us → AllByRecursion (FitsTest c) us
  pub after_amend : (k o n : ℕ) → amended ts k o n ≡ Ok us → AllByRecursion (FitsTest c) us
  pub after_strike : struck ts ≡ Ok us → AllByRecursion (FitsTest c) us

abbrev pub TestsStayFit : Type 0
TestsStayFit = (c : Circuit) (ts us : List Test) → AllByRecursion (FitsTest c) ts → StayFit c ts us
