-- What a place for a netlist holds.
--   held_by                             the netlist that is in, if one is
--   kept                                what is in after a load
--   SoundIn                             a sound netlist is in
--   circuit_in, input_name, gate_name   the circuit that is in, and the name of an input or a gate of it, by number
use Rattle.std.specs.Prelude.{ℕ, zero, suc, Bool, true, false, List, Some, None, Ok, Err, Option, Result}
use Rattle.std.specs.List.{slice_get}
use Rattle.refusal.specs.declared.Refusal.{Refusal}
use Rattle.circuit.specs.Circuits.{Circuit}
use Rattle.netlist_text.specs.Statements.{Name}
use Rattle.netlist_text.specs.Netlists.{Netlist}
use Rattle.netlist_text.specs.Law.{SoundNetlist}
use Rattle.netlist.specs.declared.netlist.Netlist.{Netlist as Place}
use Rattle.netlist.specs.Drafts.{draft_of}

abbrev pub chosen : Bool → Netlist → Option Netlist
chosen true n = Some n
chosen false n = None

abbrev pub held_by : Place → Option Netlist
held_by p = chosen p.loaded (draft_of p.tables).netlist

-- what was given, if it was; what was in before, if not
abbrev pub kept : Option Netlist → Result Netlist Refusal → Option Netlist
kept before (Ok n) = Some n
kept before (Err r) = before

abbrev pub SoundIn : Option Netlist → Type 0
SoundIn None = ⊥
SoundIn (Some n) = SoundNetlist n

abbrev pub circuit_in : Option Netlist → Option Circuit
circuit_in None = None
circuit_in (Some n) = Some n.circuit

-- the one of this number, from 1
abbrev pub name_at : List Name → ℕ → Option Name
name_at ns zero = None
name_at ns (suc i) = slice_get ns i

abbrev pub input_name : Option Netlist → ℕ → Option Name
input_name None i = None
input_name (Some n) i = name_at n.input_names i

abbrev pub gate_name : Option Netlist → ℕ → Option Name
gate_name None g = None
gate_name (Some n) g = name_at n.gate_names g
