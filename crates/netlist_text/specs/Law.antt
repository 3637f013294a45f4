-- What every netlist that a text gives has.
--   good_name   1 to 16 letters, digits or underscores
--   Distinct    no two of these names are the same
--   Apart       none of these names is one of those
--   Different   no two of these signals are the same
--   SoundNetlist a sound circuit with an input, an output and a gate, whose signals have good names, each its own, and no output twice
use Rattle.std.specs.Prelude.{◌≡◌, ℕ, ◌<◌, ◌≤◌, Bool, true, false, not, ◌&&◌, List, [], length, Ok, slice_index_or}
use Rattle.circuit.specs.declared.gate.Signal.{Signal}
use Rattle.std.specs.List.{list_all}
use Rattle.circuit.specs.Circuits.{Sound}
use Rattle.netlist_text.specs.Words.{name_byte}
use Rattle.netlist_text.specs.Statements.{Name, is_name, none}
use Rattle.netlist_text.specs.Netlists.{Netlist, same_name}
use Rattle.netlist_text.specs.Meaning.{meaning}

abbrev pub good_name : Name → Bool
good_name n = not (none n) && (list_all name_byte n && is_name n)

abbrev pub Distinct : List Name → Type 0
Distinct ns = (i j : ℕ) → i < length ns → j < length ns → same_name (slice_index_or ns i []) (slice_index_or ns j []) ≡ true → i ≡ j

abbrev pub Apart : List Name → List Name → Type 0
Apart these those = (i j : ℕ) → i < length these → j < length those → same_name (slice_index_or these i []) (slice_index_or those j []) ≡ false

abbrev pub Different : List Signal → Type 0
Different ss = (i j : ℕ) (d : Signal) → i < length ss → j < length ss → slice_index_or ss i d ≡ slice_index_or ss j d → i ≡ j

pub record SoundNetlist (n : Netlist) : Type 0 where
  pub circuit : Sound n.circuit
  pub an_input : 1 ≤ n.circuit.inputs
  pub a_gate : 1 ≤ length n.circuit.gates
  pub an_output : 1 ≤ length n.circuit.outputs
  pub inputs_named : length n.input_names ≡ n.circuit.inputs
  pub gates_named : length n.gate_names ≡ length n.circuit.gates
  pub input_names_good : list_all good_name n.input_names ≡ true
  pub gate_names_good : list_all good_name n.gate_names ≡ true
  pub inputs_distinct : Distinct n.input_names
  pub gates_distinct : Distinct n.gate_names
  pub apart : Apart n.input_names n.gate_names
  pub outputs_different : Different n.circuit.outputs

-- every netlist that a text gives is sound
abbrev pub TakenIsSound : Type 0
TakenIsSound = (text : List ℕ) (n : Netlist) → meaning text ≡ Ok n → SoundNetlist n
