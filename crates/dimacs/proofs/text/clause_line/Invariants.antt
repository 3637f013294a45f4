use Rattle.std.proofs.Common.{◌*◌, ◌≤◌, length, take}
use Rattle.dimacs.specs.Texts.{Appended, words_of}
use Rattle.dimacs.proofs.text.clause_line.Given as goal

abbrev pub invariant-loop-literal : goal.invariant-loop-literal
invariant-loop-literal l = Appended l.initial.text (words_of (take l.literal-index l.literal-items)) l.text × (length (words_of (take l.literal-index l.literal-items)) ≤ 12 * l.literal-index)
