-- The statements of a sound netlist's inputs and gates are admitted one after another, and give those inputs and gates.
--   Completes   these statements, from this line and draft on, give the netlist
--   of_inputs   the draft of so many inputs with these names
--   up_to       the draft of a netlist's inputs, of the first of its gates, and of OUTPUT lines
use Rattle.std.proofs.Common.{◌≡◌, ℕ, suc, ◌+◌, ◌<◌, ◌≤◌, Bool, true, not, List, [], ◌∷◌, ◌++◌, map, length, get_or, is_some, None, Ok, Err, Result, sym, refl, ap, ◌∙◌, subst, arith}
use Rattle.std.proofs.lemmas.List.{append-nil, append_assoc, length-append, length-map, length_push, get_or_at}
use Rattle.std.proofs.lemmas.Bool.{cond-true, and_parts, lt-ltb}
use Rattle.circuit.specs.Kinds.{takes}
use Rattle.std.specs.List.{list_all}
use Rattle.circuit.specs.Circuits.{Gate, there, fits, wired}
use Rattle.circuit.proofs.Wiring.{all_there_more}
use Rattle.netlist_text.specs.Statements.{Name, Statement, input, gate}
use Rattle.netlist_text.specs.Netlists.{Netlist, OutputLine, Draft, find, either, signal, signals}
use Rattle.refusal.specs.Asking.{ask}
use Rattle.netlist_text.specs.Meaning.{input_added, gate_added, new, connected, admitted, on_line, and_then, finished}
use Rattle.netlist_text.specs.Law.{Distinct, SoundNetlist}
use Rattle.netlist_text.specs.Written.{name_of, gate_statements}
use Rattle.netlist_text.proofs.WrittenLines.{admitted_all}
use Rattle.netlist_text.proofs.FoundNames.{new_name, other_names}
use Rattle.netlist_text.proofs.NamedSignals.{Begins, signals_of_names}

abbrev pub Completes : Netlist → ℕ → Draft → List Statement → Type 0
Completes n line d ss = and_then (admitted_all line d ss) finished ≡ Ok n

abbrev pub of_inputs : ℕ → List Name → Draft
of_inputs i xs = record { netlist = record { circuit = record { inputs = i; gates = []; outputs = [] }; input_names = xs; gate_names = [] }; outputs = [] }

-- as many inputs as names
abbrev pub inputs_only : List Name → Draft
inputs_only xs = of_inputs (length xs) xs

abbrev pub up_to : Netlist → List Name → List Gate → List OutputLine → Draft
up_to n ws gs os = record { netlist = record { circuit = record { inputs = n.circuit.inputs; gates = gs; outputs = [] }; input_names = n.input_names; gate_names = ws }; outputs = os }

pub completes_more : (n : Netlist) (line : ℕ) (d e : Draft) (s : Statement) (ss : List Statement) → admitted d line s ≡ Ok e → Completes n (line + 1) e ss → Completes n line d (s ∷ ss)
completes_more n line d e s ss a c = ap (λ r. and_then (and_then (on_line line r) (λ x. admitted_all (line + 1) x ss)) finished) a ∙ c

pub asked : {X : Type 0} (q : ℕ) (so : Bool) (r : Result X ℕ) → so ≡ true → ask q so r ≡ r
asked q so r e = cond-true so r (Err q) e

new_when_none : (d : Draft) (w : Name) → signal d.netlist w ≡ None → new d w ≡ true
new_when_none d w e = ap (λ o. not (is_some o)) e

length_push_suc : {A : Type 0} (xs : List A) (x : A) → suc (length xs) ≡ length (xs ++ x ∷ [])
length_push_suc xs x = omega (arith, length_push xs x)

-- ── inputs ──
input_admitted : (xs : List Name) (w : Name) (ws : List Name) (line : ℕ) → Distinct (xs ++ w ∷ ws) → length xs < 64 → admitted (inputs_only xs) line (input w) ≡ Ok (inputs_only (xs ++ w ∷ []))
input_admitted xs w ws line d h =
    asked 6 (new (inputs_only xs) w) _ (new_when_none (inputs_only xs) w (ap (λ o. either o None) (new_name xs w ws d)))
    ∙ asked 8 _ (Ok (input_added (inputs_only xs) w)) (lt-ltb (length xs) _ (omega arith))
    ∙ ap (λ i. Ok (of_inputs i (xs ++ w ∷ []))) (length_push_suc xs w)

pub inputs_admitted : (n : Netlist) (line : ℕ) (xs ws : List Name) (rest : List Statement) → Distinct (xs ++ ws) → length (xs ++ ws) ≤ 64 → ((l : ℕ) → Completes n l (inputs_only (xs ++ ws)) rest) → Completes n line (inputs_only xs) (map input ws ++ rest)
inputs_admitted n line xs [] rest d few go = subst (λ (ys : List Name). Completes n line (inputs_only ys) rest) (append-nil xs) (go line)
inputs_admitted n line xs (w ∷ ws) rest d few go =
    let e = sym (append_assoc xs (w ∷ []) ws) in
    completes_more n line (inputs_only xs) (inputs_only (xs ++ w ∷ [])) (input w) (map input ws ++ rest)
    (input_admitted xs w ws line d (omega (arith, length-append xs (w ∷ ws))))
    (inputs_admitted n (line + 1) (xs ++ w ∷ []) ws rest (subst Distinct e d) (subst (λ (ys : List Name). length ys ≤ 64) e few)
    (subst (λ (ys : List Name). (l : ℕ) → Completes n l (inputs_only ys) rest) e go))

-- ── gates ──
module _ (n : Netlist) (sound : SoundNetlist n) where
  gate_new : (ws : List Name) (gs : List Gate) (w : Name) (vs : List Name) → ws ++ w ∷ vs ≡ n.gate_names → new (up_to n ws gs []) w ≡ true
  gate_new ws gs w vs e =
      let at : get_or n.gate_names (length ws) [] ≡ w = ap (λ ns. get_or ns (length ws) []) (sym e) ∙ get_or_at ws w vs [] (length ws) refl in
      let no-input = ap (find 1 n.input_names) (sym at) ∙ other_names n.input_names n.gate_names (length ws) sound.apart (omega (arith, ap length e, length-append ws (w ∷ vs))) in
      let no-gate = new_name ws w vs (subst Distinct (sym e) sound.gates_distinct) in
      new_when_none (up_to n ws gs []) w (ap (λ o. either o (find 1 ws w)) no-input ∙ ap (either None) no-gate)

  gate_admitted : (ws : List Name) (gs : List Gate) (w : Name) (vs : List Name) (g : Gate) (line : ℕ) → ws ++ w ∷ vs ≡ n.gate_names → length ws ≡ length gs → length gs < 256 → fits n.circuit.inputs (length gs) g ≡ true → admitted (up_to n ws gs []) line (gate w g.kind (map (name_of n) g.operands)) ≡ Ok (up_to n (ws ++ w ∷ []) (gs ++ g ∷ []) [])
  gate_admitted ws gs w vs g line e same few fit =
      let d = up_to n ws gs [] in
      let I = n.circuit.inputs in
      let names = map (name_of n) g.operands in
      let p = and_parts (takes g.kind (length g.operands)) (list_all (there I (length gs)) g.operands) fit in
      let there-now = all_there_more I (length n.input_names) (length gs) (length ws) g.operands (omega (arith, sound.inputs_named)) (omega arith) p.1 in
      let begins : Begins d.netlist n = record { inputs = refl; later = w ∷ vs; gates = e } in
      asked 5 (takes g.kind (length names)) _ (ap (takes g.kind) (length-map g.operands (name_of n)) ∙ p.0)
      ∙ asked 6 (new d w) (connected d w g.kind (signals d.netlist names)) (gate_new ws gs w vs e)
      ∙ ap (connected d w g.kind) (signals_of_names d.netlist n begins sound g.operands there-now)
      ∙ asked 8 _ (Ok (gate_added d w g.kind g.operands)) (lt-ltb (length gs) _ (omega arith))

  pub gates_admitted : (line : ℕ) (ws vs : List Name) (gs hs : List Gate) (rest : List Statement) → ws ++ vs ≡ n.gate_names → gs ++ hs ≡ n.circuit.gates → length ws ≡ length gs → wired n.circuit.inputs (length gs) hs ≡ true → ((l : ℕ) → Completes n l (up_to n n.gate_names n.circuit.gates []) rest) → Completes n line (up_to n ws gs []) (gate_statements n vs hs ++ rest)
  gates_admitted line ws [] gs [] rest e f same wd go =
      let names = sym (append-nil ws) ∙ e in
      let gates = sym (append-nil gs) ∙ f in
      subst (λ (xs : List Name). Completes n line (up_to n xs gs []) rest) (sym names)
      (subst (λ (xs : List Gate). Completes n line (up_to n n.gate_names xs []) rest) (sym gates) (go line))
  gates_admitted line ws [] gs (h ∷ hs) rest e f same wd go =
      absurd (omega (arith, ap length e, ap length f, length-append ws [], length-append gs (h ∷ hs), sound.gates_named))
  gates_admitted line ws (v ∷ vs) gs [] rest e f same wd go =
      absurd (omega (arith, ap length e, ap length f, length-append ws (v ∷ vs), length-append gs [], sound.gates_named))
  gates_admitted line ws (v ∷ vs) gs (h ∷ hs) rest e f same wd go =
      let I = n.circuit.inputs in
      let p = and_parts (fits I (length gs) h) (wired I (suc (length gs)) hs) wd in
      completes_more n line (up_to n ws gs []) (up_to n (ws ++ v ∷ []) (gs ++ h ∷ []) []) (gate v h.kind (map (name_of n) h.operands)) (gate_statements n vs hs ++ rest)
      (gate_admitted ws gs v vs h line e same (omega (arith, ap length f, length-append gs (h ∷ hs), sound.circuit.few_gates)) p.0)
      (gates_admitted (line + 1) (ws ++ v ∷ []) vs (gs ++ h ∷ []) hs rest (append_assoc ws (v ∷ []) vs ∙ e) (append_assoc gs (h ∷ []) hs ∙ f)
      (omega (arith, length_push ws v, length_push gs h)) (subst (λ k. wired I k hs ≡ true) (length_push_suc gs h) p.1) go)
