-- One output more.
use Rattle.std.proofs.Common.{◌≡◌, ℕ, ◌<◌, true, false, ltb, List, length, Some, Ok, Err, Result, is_ok, vec_items, sym, refl, ◌∙◌, subst}
use Rattle.std.proofs.lemmas.List.{length-map}
use Rattle.std.proofs.lemmas.Bool.{cond-false, and_from, lt-ltb, both_ways}
use Rattle.circuit.specs.declared.gate.Signal.{Signal}
use Rattle.circuit.specs.Circuits.{there}
use Rattle.circuit.specs.Held.{circuit_of, admits_output}
use Rattle.netlist_text.specs.Netlists.{Netlist, signal}
use Rattle.netlist_text.specs.Meaning.{refusal, shows, output_shown, shown}
use Rattle.netlist_text.proofs.Signals.{signal_there}
use Rattle.scanner.specs.Named.{name_of}
use Rattle.netlist.specs.declared.tables.Tables.{Tables}
use Rattle.netlist.specs.Drafts.{draft_of}
use Rattle.netlist.specs.declared.fault.ReadFault.{ReadFault}
use Rattle.netlist.specs.Faults.{answered}

pub shown_new : (n : Netlist) (line : ℕ) (s : Signal) → shows n s ≡ false → shown n line (Some s) ≡ Ok (output_shown n s)
shown_new n line s e = cond-false (shows n s) (Err (refusal 10 line 0)) (Ok (output_shown n s)) e

-- a signal that was found by its name may become an output while there is room
pub found_admitted : (t : Tables) (w : List ℕ) (s : Signal) → Some s ≡ signal (draft_of t).netlist w → length (draft_of t).netlist.circuit.outputs < 64 → admits_output (circuit_of t.circuit) s ≡ true
found_admitted t w s e room =
    let n = (draft_of t).netlist in
    let I = (circuit_of t.circuit).inputs in
    let G = length (circuit_of t.circuit).gates in
    let inputs : length n.input_names ≡ I = length-map (vec_items t.input_names) name_of ∙ sym t.input_names.ok.0 ∙ t.inputs_named in
    let gates : length n.gate_names ≡ G = length-map (vec_items t.gate_names) name_of ∙ sym t.gate_names.ok.0 ∙ t.gates_named in
    let here : there I G s ≡ true = subst (λ (g : ℕ). there I g s ≡ true) gates (subst (λ (i : ℕ). there i (length n.gate_names) s ≡ true) inputs (signal_there n w s (sym e))) in
    and_from (ltb (length (circuit_of t.circuit).outputs) 64) (there I G s) (lt-ltb (length (circuit_of t.circuit).outputs) 64 room) here

-- ── an answer that is ok ──
pub answered_ok : {X D : Type 0} (r : Result X ReadFault) (d : D) → is_ok r ≡ true → answered r d ≡ Ok d
answered_ok (Ok x) d e = refl
answered_ok (Err f) d e = absurd (both_ways true (sym e) refl)
