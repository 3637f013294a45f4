use Rattle.std.proofs.Common.{◌≡◌, ◌+◌}
use Rattle.netlist_text.specs.Words.{lines}
use Rattle.netlist_text.specs.Netlists.{blank}
use Rattle.netlist_text.specs.Meaning.{read_lines}
use Rattle.netlist_text.proofs.Drawn.{Drawn}
use Rattle.netlist.specs.Drafts.{draft_of}
use Rattle.netlist.proofs.LineByLine.{parts_left}
use Rattle.netlist.proofs.tables.Tables.read.Given as goal

abbrev pub invariant-loop-i : goal.invariant-loop-i
invariant-loop-i l =
    (read_lines (l.i-iterator.count + 1) (draft_of l.self) (parts_left l.i-iterator.iter.done l.i-iterator.iter.rest.now) ≡ read_lines 1 blank (lines l.text))
    × Drawn (draft_of l.self)
