-- The refusal that each fault is, and answers with what is held then.
--   refusal_of   the number of the question that said no; these have no line and no column
--   read         the answer to one record
--   kept         what is held after an answer: what it gave, or what was held before
use Rattle.std.specs.Prelude.{ℕ, Ok, Err, Result}
use Rattle.refusal.specs.declared.Refusal.{Refusal}
use Rattle.refusal.specs.Asking.{numbered}
use Rattle.circuit.specs.Tests.{Test}
use Rattle.testlog.specs.declared.fault.RecordFault.{RecordFault}
use Rattle.testlog.specs.declared.fault.RecordFault.TheVariants.{Full, Length, UnusedBits, Amendment, NoTest}
use Rattle.testlog.specs.declared.test.Test.{Test as HeldTest}
use Rattle.testlog.specs.Held.{test_of}

abbrev pub number : RecordFault → ℕ
number Full = 11
number Length = 12
number UnusedBits = 13
number Amendment = 14
number NoTest = 15

abbrev pub refusal_of : RecordFault → Refusal
refusal_of f = numbered (number f)

abbrev pub read : Result HeldTest RecordFault → Result Test Refusal
read (Ok t) = Ok (test_of t)
read (Err f) = Err (refusal_of f)

abbrev pub kept : {X : Type 0} → X → Result X Refusal → X
kept before (Ok after) = after
kept before (Err r) = before
