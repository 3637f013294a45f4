-- The number, line and column of each fault.
--   number       the question that a fault of a line says no to
--   refusal_of   the refusal that a fault of a text is
--   told, ..     an answer, with what is held then
use Rattle.std.specs.Prelude.{ℕ, Ok, Err, Result}
use Rattle.refusal.specs.declared.Refusal.{Refusal}
use Rattle.netlist_text.specs.Meaning.{refusal}
use Rattle.netlist.specs.declared.fault.LineFault.{LineFault}
use Rattle.netlist.specs.declared.fault.LineFault.TheVariants.{Byte, Form, OperandCount, Redefined, Undefined, Full}
use Rattle.netlist.specs.declared.fault.ReadFault.{ReadFault}
use Rattle.netlist.specs.declared.fault.ReadFault.TheVariants.{Loaded, Long, Line, Lacking, Output}

abbrev pub number : LineFault → ℕ
number (Byte f) = 3
number Form = 4
number OperandCount = 5
number Redefined = 6
number Undefined = 7
number Full = 8

abbrev pub column_of : LineFault → ℕ
column_of (Byte f) = f.column
column_of Form = 0
column_of OperandCount = 0
column_of Redefined = 0
column_of Undefined = 0
column_of Full = 0

abbrev pub refusal_of : ReadFault → Refusal
refusal_of Loaded = refusal 1 0 0
refusal_of Long = refusal 2 0 0
refusal_of (Line line f) = refusal (number f) line (column_of f)
refusal_of Lacking = refusal 9 0 0
refusal_of (Output line) = refusal 10 line 0

-- the answer to a statement, by number
abbrev pub told : {X D : Type 0} → Result X LineFault → D → Result D ℕ
told (Ok x) d = Ok d
told (Err f) d = Err (number f)

-- the answer to a line of this number
abbrev pub told_on : {X D : Type 0} → ℕ → Result X LineFault → D → Result D Refusal
told_on line (Ok x) d = Ok d
told_on line (Err f) d = Err (refusal (number f) line (column_of f))

-- the answer to a text
abbrev pub answered : {X D : Type 0} → Result X ReadFault → D → Result D Refusal
answered (Ok x) d = Ok d
answered (Err f) d = Err (refusal_of f)
