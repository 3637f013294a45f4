-- The text of a sound netlist reads back as that netlist.
use Rattle.std.proofs.Common.{◌≡◌, leb, [], ◌++◌, map, length, Err, sym, refl, ap, ◌∙◌, subst, arith}
use Rattle.std.proofs.lemmas.Bool.{cond-true, le-leb}
use Rattle.netlist_text.specs.Words.{lines}
use Rattle.netlist_text.specs.Statements.{output}
use Rattle.netlist_text.specs.Netlists.{Netlist, Draft, blank}
use Rattle.netlist_text.specs.Meaning.{refusal, read_lines}
use Rattle.netlist_text.specs.Law.{SoundNetlist}
use Rattle.netlist_text.specs.Written.{text_of, name_of, gate_statements, statements, ReadsBack}
use Rattle.netlist_text.proofs.WrittenLines.{read_lines_written}
use Rattle.netlist_text.proofs.WrittenNetlist.{statements_writable, text_short}
use Rattle.netlist_text.proofs.AdmittedStatements.{Completes, of_inputs, inputs_only, up_to, inputs_admitted, gates_admitted}
use Rattle.netlist_text.proofs.ShownOutputs.{outputs_admitted}

-- all inputs, and no gate yet
all_inputs : (n : Netlist) → SoundNetlist n → up_to n [] [] [] ≡ inputs_only n.input_names
all_inputs n sound = ap (λ i. of_inputs i n.input_names) (sym sound.inputs_named)

statements_complete : (n : Netlist) → SoundNetlist n → Completes n 1 blank (statements n)
statements_complete n sound =
    let outputs = map (λ s. output (name_of n s)) n.circuit.outputs in
    let rest = gate_statements n n.gate_names n.circuit.gates ++ outputs in
    inputs_admitted n 1 [] n.input_names rest sound.inputs_distinct (omega (arith, sound.inputs_named, sound.circuit.few_inputs)) (λ line.
    subst (λ (d : Draft). Completes n line d rest) (all_inputs n sound)
    (gates_admitted n sound line [] n.gate_names [] n.circuit.gates outputs refl refl refl sound.circuit.in_order (outputs_admitted n sound)))

pub reads_back : ReadsBack
reads_back n sound =
    let text = text_of (statements n) in
    cond-true (leb (length text) 60000) (read_lines 1 blank (lines text)) (Err (refusal 2 0 0)) (le-leb (length text) 60000 (text_short n sound))
    ∙ read_lines_written 1 blank (statements n) (statements_writable n sound)
    ∙ statements_complete n sound
