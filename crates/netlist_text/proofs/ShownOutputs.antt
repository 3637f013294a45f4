-- The OUTPUT lines of a sound netlist are admitted, and the whole text then gives its outputs.
--   output_lines   the OUTPUT lines of these signals, numbered from this line on
--   showing        a netlist with these of its outputs
--   declaring      the draft of a netlist's inputs and gates, and of OUTPUT lines
use Rattle.std.proofs.Common.{◌≡◌, ℕ, suc, ◌+◌, ◌<◌, ◌≤◌, true, false, ltb, List, [], ◌∷◌, ◌++◌, map, length, get_or, Ok, Err, sym, refl, ap, ◌∙◌, subst, ⊎_elim, arith}
use Rattle.std.proofs.lemmas.List.{append-nil, append_assoc, length-append, length_push, get_or_append_left, get_or_at}
use Rattle.std.proofs.lemmas.Bool.Decides.{nat_tests}
use Rattle.std.proofs.lemmas.Bool.{cond-false, cases_Bool, and_parts, or_from, lt-ltb}
use Rattle.circuit.specs.declared.gate.Signal.{Signal}
use Rattle.circuit.specs.SignalEq.{signal_eq, signal_eq_decides}
use Rattle.std.specs.List.{list_all, list_any}
use Rattle.circuit.specs.Circuits.{there}
use Rattle.circuit.specs.Circuits as circuits
use Rattle.circuit.proofs.Wiring.{there_more}
use Rattle.netlist_text.specs.Statements.{Name, output}
use Rattle.netlist_text.specs.Netlists.{Netlist, OutputLine, Draft, signal}
use Rattle.netlist_text.specs.Meaning.{output_added, refusal, shows, shown, and_then, with_outputs, lacking, finished}
use Rattle.netlist_text.specs.Law.{Different, SoundNetlist}
use Rattle.netlist_text.specs.Written.{name_of}
use Rattle.netlist_text.proofs.NamedSignals.{Begins, signal_of_name}
use Rattle.netlist_text.proofs.AdmittedStatements.{Completes, up_to, completes_more, asked}

abbrev pub output_lines : Netlist → ℕ → List Signal → List OutputLine
output_lines n line [] = []
output_lines n line (s ∷ ss) = record { line = line; name = name_of n s } ∷ output_lines n (line + 1) ss

abbrev showing : Netlist → List Signal → Netlist
showing n ss = record { circuit = record { inputs = n.circuit.inputs; gates = n.circuit.gates; outputs = ss }; input_names = n.input_names; gate_names = n.gate_names }

abbrev pub declaring : Netlist → List OutputLine → Draft
declaring n os = up_to n n.gate_names n.circuit.gates os

-- ── no signal is shown twice ──
none_same : (s : Signal) (ss : List Signal) → ((i : ℕ) → i < length ss → signal_eq (get_or ss i s) s ≡ false) → list_any (λ y. signal_eq y s) ss ≡ false
none_same s [] f = refl
none_same s (t ∷ ss) f = or_from (signal_eq t s) (list_any (λ y. signal_eq y s) ss) (f 0 (omega arith)) (none_same s ss (λ i h. f (suc i) (omega arith)))

not_yet_shown : (ss : List Signal) (s : Signal) (ts : List Signal) → Different (ss ++ s ∷ ts) → list_any (λ y. signal_eq y s) ss ≡ false
not_yet_shown ss s ts d =
    none_same s ss (λ i h. ⊎_elim
    (λ t.
    let same = get_or_append_left ss (s ∷ ts) s i h ∙ (signal_eq_decides (get_or ss i s) s).0 t ∙ sym (get_or_at ss s ts s (length ss) refl) in
    let len = length-append ss (s ∷ ts) in
    absurd (omega (arith, d i (length ss) s (omega arith) (omega arith) same)))
    (λ f. f)
    (cases_Bool (signal_eq (get_or ss i s) s)))

-- ── the outputs of the whole text ──
nothing_lacks : (n : Netlist) (ws : List Name) (gs : List circuits.Gate) (os : List OutputLine) → 1 ≤ n.circuit.inputs → 1 ≤ length gs → 1 ≤ length os → lacking (up_to n ws gs os) ≡ false
nothing_lacks n ws [] os i g o = absurd (omega arith)
nothing_lacks n ws (x ∷ gs) [] i g o = absurd (omega arith)
nothing_lacks n ws (x ∷ gs) (y ∷ os) i g o = grind (arith, nat_tests)

module _ (n : Netlist) (sound : SoundNetlist n) where
  output_shown : (ss : List Signal) (s : Signal) (ts : List Signal) (line : ℕ) → ss ++ s ∷ ts ≡ n.circuit.outputs → there n.circuit.inputs (length n.circuit.gates) s ≡ true → shown (showing n ss) line (signal (showing n ss) (name_of n s)) ≡ Ok (showing n (ss ++ s ∷ []))
  output_shown ss s ts line e t =
      let begins : Begins (showing n ss) n = record { inputs = refl; later = []; gates = append-nil n.gate_names } in
      let t-named = there_more n.circuit.inputs (length n.input_names) (length n.circuit.gates) (length n.gate_names) s (omega (arith, sound.inputs_named)) (omega (arith, sound.gates_named)) t in
      ap (shown (showing n ss) line) (signal_of_name (showing n ss) n begins sound s t-named)
      ∙ cond-false (shows (showing n ss) s) (Err (refusal 10 line 0)) (Ok (showing n (ss ++ s ∷ []))) (not_yet_shown ss s ts (subst Different (sym e) sound.outputs_different))

  outputs_shown : (line : ℕ) (ss ts : List Signal) → ss ++ ts ≡ n.circuit.outputs → list_all (there n.circuit.inputs (length n.circuit.gates)) ts ≡ true → with_outputs (showing n ss) (output_lines n line ts) ≡ Ok n
  outputs_shown line ss [] e a = ap (λ os. Ok (showing n os)) (sym (append-nil ss) ∙ e)
  outputs_shown line ss (t ∷ ts) e a =
      let p = and_parts (there n.circuit.inputs (length n.circuit.gates) t) (list_all (there n.circuit.inputs (length n.circuit.gates)) ts) a in
      ap (λ r. and_then r (λ m. with_outputs m (output_lines n (line + 1) ts))) (output_shown ss t ts line e p.0)
      ∙ outputs_shown (line + 1) (ss ++ t ∷ []) ts (append_assoc ss (t ∷ []) ts ∙ e) p.1

  output_lines_length : (line : ℕ) (ss : List Signal) → length (output_lines n line ss) ≡ length ss
  output_lines_length line [] = refl
  output_lines_length line (s ∷ ss) = ap suc (output_lines_length (line + 1) ss)

  whole_finished : (line : ℕ) → finished (declaring n (output_lines n line n.circuit.outputs)) ≡ Ok n
  whole_finished line =
      let os = output_lines n line n.circuit.outputs in
      cond-false (lacking (declaring n os)) (Err (refusal 9 0 0)) (with_outputs (showing n []) os)
      (nothing_lacks n n.gate_names n.circuit.gates os sound.an_input sound.a_gate (omega (arith, output_lines_length line n.circuit.outputs, sound.an_output)))
      ∙ outputs_shown line [] n.circuit.outputs refl sound.circuit.shown

  -- ── the OUTPUT lines ──
  outputs_admitted_from : (line : ℕ) (os : List OutputLine) (ss : List Signal) → length os + length ss ≤ 64 → finished (declaring n (os ++ output_lines n line ss)) ≡ Ok n → Completes n line (declaring n os) (map (λ s. output (name_of n s)) ss)
  outputs_admitted_from line os [] few end = subst (λ (ls : List OutputLine). finished (declaring n ls) ≡ Ok n) (append-nil os) end
  outputs_admitted_from line os (s ∷ ss) few end =
      let o : OutputLine = record { line = line; name = name_of n s } in
      let d = declaring n os in
      completes_more n line d (output_added d line (name_of n s)) (output (name_of n s)) (map (λ s. output (name_of n s)) ss)
      (asked 8 (ltb (length os) 64) (Ok (output_added d line (name_of n s))) (lt-ltb (length os) 64 (omega arith)))
      (outputs_admitted_from (line + 1) (os ++ o ∷ []) ss (omega (arith, length_push os o))
      (subst (λ (ls : List OutputLine). finished (declaring n ls) ≡ Ok n) (sym (append_assoc os (o ∷ []) (output_lines n (line + 1) ss))) end))

  pub outputs_admitted : (line : ℕ) → Completes n line (declaring n []) (map (λ s. output (name_of n s)) n.circuit.outputs)
  outputs_admitted line = outputs_admitted_from line [] n.circuit.outputs (omega (arith, sound.circuit.few_outputs)) (whole_finished line)
