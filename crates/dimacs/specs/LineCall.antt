-- The call that writes one line of the formula's text.
--   line_at        the line of this number, counted from 1
--   no_such_line   the refusal: the number names no line, or the buffer has fewer than 128 bytes
--   told           the answer: the line's length
--   left           the buffer then: the line, and behind it what was there
use Rattle.std.specs.Prelude.{ℕ, zero, suc, cond, List, ◌++◌, length, drop, Some, None, Ok, Err, Option, Result, nat_le}
use Rattle.std.specs.List.{slice_get}
use Rattle.refusal.specs.declared.Refusal.{Refusal}
use Rattle.refusal.specs.Asking.{numbered}

abbrev pub line_at : List (List ℕ) → ℕ → Option (List ℕ)
line_at ls zero = None
line_at ls (suc j) = slice_get ls j

abbrev pub no_such_line : Refusal
no_such_line = numbered 19

abbrev told_of : Option (List ℕ) → Result ℕ Refusal
told_of None = Err no_such_line
told_of (Some text) = Ok (length text)

abbrev left_of : List ℕ → Option (List ℕ) → List ℕ
left_of buffer None = buffer
left_of buffer (Some text) = text ++ drop (length text) buffer

abbrev pub told : List ℕ → Option (List ℕ) → Result ℕ Refusal
told buffer line = cond (nat_le 128 (length buffer)) (told_of line) (Err no_such_line)

abbrev pub left : List ℕ → Option (List ℕ) → List ℕ
left buffer line = cond (nat_le 128 (length buffer)) (left_of buffer line) buffer
