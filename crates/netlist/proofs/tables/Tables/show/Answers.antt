use Rattle.std.proofs.Common.{◌≡◌, true, Some, Ok, is_ok, sym, ap, ◌∙◌}
use Rattle.std.proofs.lemmas.Bool.{cond-true}
use Rattle.circuit.specs.Circuits.{Circuit, with_output}
use Rattle.circuit.specs.Held.{circuit_of}
use Rattle.netlist_text.specs.Netlists.{signal}
use Rattle.netlist_text.specs.Meaning.{shown}
use Rattle.scanner.specs.Named.{name_of}
use Rattle.netlist.specs.Drafts.{draft_of}
use Rattle.netlist.proofs.Shown.{shown_new, found_admitted, answered_ok}
use Rattle.netlist.proofs.tables.Tables.show.Goals as goal

pub returns : goal.returns
returns c =
    let t = c.args.self.now in
    let n = (draft_of t).netlist in
    let s = c.in_ok-signal.signal in
    let w = name_of c.args.output.name in
    let found : Some s ≡ signal n w = sym c.in_ok-signal.ensures.ok_part ∙ c.signal.ensures ∙ ap (signal n) c.as_bytes.ensures in
    let admitted : is_ok c.add_output.result ≡ true = c.add_output.ensures.taken ∙ found_admitted t w s found c.requires in
    let after = c.add_output.ensures.after ∙ cond-true (is_ok c.add_output.result) (with_output (circuit_of t.circuit) s) (circuit_of t.circuit) admitted in
    answered_ok c.map_err.result _ (c.map_err.ensures.variant ∙ admitted)
    ∙ ap (λ (x : Circuit). Ok (record { circuit = x; input_names = n.input_names; gate_names = n.gate_names })) after
    ∙ sym (ap (shown n c.args.output.line) (sym found) ∙ shown_new n c.args.output.line s (sym c.if-is_shown.ensures))
