use Rattle.std.proofs.Common.{◌≡◌, map, length, drop}
use Rattle.inline_list.specs.Listed.{listed}
use Rattle.netlist_text.specs.Netlists.{signals}
use Rattle.scanner.specs.Named.{name_of}
use Rattle.netlist.specs.Drafts.{draft_of}
use Rattle.netlist.proofs.Found.{joined_after}
use Rattle.netlist.proofs.tables.Tables.signals.Given as goal

abbrev pub invariant-loop-name : goal.invariant-loop-name
invariant-loop-name l =
    (joined_after (listed l.operands) (signals (draft_of l.self).netlist (map name_of (drop l.name-index l.words))) ≡ signals (draft_of l.self).netlist (map name_of l.words))
    × (length (listed l.operands) ≡ l.name-index)
