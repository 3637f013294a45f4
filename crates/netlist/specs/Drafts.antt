-- What the tables stand for.
--   draft_of   the draft that they hold
use Rattle.std.specs.Prelude.{map, vec_items}
use Rattle.inline_list.specs.Listed.{listed}
use Rattle.circuit.specs.Held.{circuit_of}
use Rattle.netlist_text.specs.Netlists.{OutputLine, Draft}
use Rattle.scanner.specs.Named.{name_of}
use Rattle.netlist.specs.declared.tables.OutputLine.{OutputLine as HeldOutputLine}
use Rattle.netlist.specs.declared.tables.Tables.{Tables}

abbrev pub output_line_of : HeldOutputLine → OutputLine
output_line_of o = record { line = o.line; name = name_of o.name }

abbrev pub draft_of : Tables → Draft
draft_of t = record {
  netlist = record { circuit = circuit_of t.circuit; input_names = map name_of (vec_items t.input_names); gate_names = map name_of (vec_items t.gate_names) };
  outputs = map output_line_of (listed t.output_lines);
}
