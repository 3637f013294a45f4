use Rattle.std.proofs.Common.{◌≡◌, map, length, drop}
use Rattle.netlist_text.specs.Meaning.{with_outputs}
use Rattle.netlist.specs.Drafts.{draft_of, output_line_of}
use Rattle.netlist.proofs.tables.Tables.show_outputs.Given as goal

abbrev pub invariant-loop-output : goal.invariant-loop-output
invariant-loop-output l =
    (with_outputs (draft_of l.self).netlist (map output_line_of (drop l.output-index l.lines)) ≡ with_outputs (draft_of l.initial.self).netlist (draft_of l.initial.self).outputs)
    × (length (draft_of l.self).netlist.circuit.outputs ≡ l.output-index)
