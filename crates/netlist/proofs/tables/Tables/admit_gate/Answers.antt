use Rattle.std.proofs.Common.{◌≡◌, ℕ, Bool, true, false, ◌&&◌, ltb, List, length, is_some, Some, Ok, vec_items, sym, refl, ap, ◌∙◌, subst, rules}
use Rattle.std.proofs.lemmas.List.{length-map}
use Rattle.std.proofs.lemmas.Bool.{and_from}
use Rattle.circuit.specs.Kinds.{takes}
use Rattle.std.specs.List.{list_all}
use Rattle.inline_list.specs.Listed.{listed}
use Rattle.circuit.specs.Circuits.{Circuit, Gate, there, fits}
use Rattle.circuit.specs.Held.{circuit_of, admits_gate}
use Rattle.netlist_text.specs.Statements.{Name}
use Rattle.netlist_text.specs.Netlists.{signal, signals}
use Rattle.netlist_text.specs.Meaning.{gate_added}
use Rattle.netlist_text.proofs.Signals.{signals_there}
use Rattle.scanner.specs.Named.{name_of}
use Rattle.scanner.specs.Parsed.{names_of}
use Rattle.netlist.specs.declared.tables.Tables.{Tables}
use Rattle.netlist.specs.Drafts.{draft_of}
use Rattle.netlist.proofs.Admitted.{gate_asked, no}
use Rattle.netlist.proofs.tables.Tables.admit_gate.Goals as goal

-- a gate whose operands were found fits
found_fits : (t : Tables) (g : Gate) (ns : List Name) → takes g.kind (length ns) ≡ true → signals (draft_of t).netlist ns ≡ Some g.operands → fits (circuit_of t.circuit).inputs (length (circuit_of t.circuit).gates) g ≡ true
found_fits t g ns e s =
    let n = (draft_of t).netlist in
    let found = signals_there n ns g.operands s in
    let I = (circuit_of t.circuit).inputs in
    let G = length (circuit_of t.circuit).gates in
    let inputs : length n.input_names ≡ I = length-map (vec_items t.input_names) name_of ∙ sym t.input_names.ok.0 ∙ t.inputs_named in
    let gates : length n.gate_names ≡ G = length-map (vec_items t.gate_names) name_of ∙ sym t.gate_names.ok.0 ∙ t.gates_named in
    and_from (takes g.kind (length g.operands)) (list_all (there I G) g.operands) (ap (takes g.kind) found.1 ∙ e)
    (subst (λ (j : ℕ). list_all (there I j) g.operands ≡ true) gates (subst (λ (i : ℕ). list_all (there i (length n.gate_names)) g.operands ≡ true) inputs found.0))

-- so that only the number of gates can refuse it
admits_fitting : (c : Circuit) (g : Gate) (b : Bool) → fits c.inputs (length c.gates) g ≡ true → b ≡ admits_gate c g → ltb (length c.gates) 256 ≡ b
admits_fitting c g b f e = sym (e ∙ ap (λ x. ltb (length c.gates) 256 && x) f ∙ and_yes (ltb (length c.gates) 256))
  where
    and_yes : (x : Bool) → (x && true) ≡ x
    and_yes true = refl
    and_yes false = refl

pub returns-in_err-map_err : goal.returns-in_err-map_err
returns-in_err-map_err c =
    let t = c.args.self.now in
    let d = draft_of t in
    let n = name_of c.args.name in
    let k = c.args.kind in
    let ns = names_of c.args.operands.now in
    let ss = listed c.in_ok-operands.operands in
    let counted : takes k (length ns) ≡ true = ap (takes k) (length-map (listed c.args.operands.now) name_of ∙ sym c.len.ensures) ∙ sym c.if-not-takes.ensures in
    let fresh : is_some (signal d.netlist n) ≡ false = search rules in
    let found : signals d.netlist ns ≡ Some ss = search rules in
    let g : Gate = record { kind = k; operands = ss } in
    let refused : false ≡ admits_gate (circuit_of t.circuit) g = c.in_err-map_err.ensures.variant ∙ c.add_gate.ensures.taken in
    let full : ltb (length (circuit_of t.circuit).gates) 256 ≡ false = admits_fitting (circuit_of t.circuit) g false (found_fits t g ns counted found) refused in
    let asked = gate_asked d n k ns (Some ss) counted fresh found ∙ no 8 (ltb (length (circuit_of t.circuit).gates) 256) (Ok (gate_added d n k ss)) full in
    let told_full : _ = sym asked in
    search rules
