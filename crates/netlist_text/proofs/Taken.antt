-- Every netlist that a text gives is sound.
use Rattle.std.proofs.Common.{◌≡◌, ℕ, zero, suc, ◌+◌, ◌<◌, ◌≤◌, Bool, true, false, cond, ◌||◌, eqb, leb, List, [], ◌∷◌, ◌++◌, length, get_or, Some, None, Ok, Err, Option, Result, sym, refl, ap, ◌∙◌, subst, ⊎_elim, arith}
use Rattle.std.proofs.lemmas.List.{length_push, get_or_push, get_or_append_left}
use Rattle.std.proofs.lemmas.Bool.{cond-true, cond-false, cases_Bool, cases_lt, both_ways, or_parts, eqb-false}
use Rattle.refusal.specs.declared.Refusal.{Refusal}
use Rattle.circuit.specs.declared.gate.Signal.{Signal}
use Rattle.circuit.specs.SignalEq.{signal_eq, signal_eq_decides}
use Rattle.std.specs.List.{list_all, list_any}
use Rattle.circuit.specs.Circuits.{there}
use Rattle.circuit.proofs.Tested.{all_push}
use Rattle.netlist_text.specs.Words.{lines}
use Rattle.netlist_text.specs.Statements.{none}
use Rattle.netlist_text.specs.Netlists.{Netlist, OutputLine, Draft, blank, signal}
use Rattle.netlist_text.specs.Meaning.{refusal, read_line, shows, output_shown, shown, and_then, with_outputs, lacking, finished, read_lines}
use Rattle.netlist_text.specs.Law.{Different, SoundNetlist, TakenIsSound}
use Rattle.netlist_text.proofs.Signals.{signal_there}
use Rattle.netlist_text.proofs.Drawn.{Named, Drawn, blank_drawn, line_drawn}

-- ── signals that are no outputs yet ──
not_any : {A : Type 0} (p : A → Bool) (xs : List A) (i : ℕ) (d : A) → list_any p xs ≡ false → i < length xs → p (get_or xs i d) ≡ false
not_any p [] i d e h = absurd (omega arith)
not_any p (x ∷ xs) zero d e h = (or_parts (p x) (list_any p xs) e).0
not_any p (x ∷ xs) (suc i) d e h = not_any p xs i d (or_parts (p x) (list_any p xs) e).1 (omega arith)

different_push : (ss : List Signal) (s : Signal) → Different ss → list_any (λ y. signal_eq y s) ss ≡ false → Different (ss ++ s ∷ [])
different_push ss s f none i j d hi hj e =
    ⊎_elim
    (λ li. ⊎_elim
    (λ lj. f i j d li lj (sym (old i li) ∙ e ∙ old j lj))
    (λ gj. absurd (unlike i li (sym (old i li) ∙ e ∙ last j hj gj)))
    (cases_lt j (length ss)))
    (λ gi. ⊎_elim
    (λ lj. absurd (unlike j lj (sym (old j lj) ∙ sym e ∙ last i hi gi)))
    (λ gj. omega (arith, length_push ss s))
    (cases_lt j (length ss)))
    (cases_lt i (length ss))
  where
    old : (k : ℕ) → k < length ss → get_or (ss ++ s ∷ []) k d ≡ get_or ss k d
    old k h = get_or_append_left ss (s ∷ []) d k h

    last : (k : ℕ) → k < length (ss ++ s ∷ []) → length ss ≤ k → get_or (ss ++ s ∷ []) k d ≡ s
    last k h ge = get_or_push ss s d k (omega (arith, length_push ss s))

    unlike : (k : ℕ) → k < length ss → get_or ss k d ≡ s → ⊥
    unlike k h q = both_ways (signal_eq (get_or ss k d) s) (not_any (λ y. signal_eq y s) ss k d none h) ((signal_eq_decides (get_or ss k d) s).1 q)

-- ── the outputs, one after another ──
pub record Shown (n : Netlist) : Type 0 where
  pub named : Named n
  pub there_all : list_all (there n.circuit.inputs (length n.circuit.gates)) n.circuit.outputs ≡ true
  pub different : Different n.circuit.outputs

pub shown_ok : (n : Netlist) (line : ℕ) (o : Option Signal) (m : Netlist) → shown n line o ≡ Ok m → (s : Signal) × (o ≡ Some s) × (shows n s ≡ false) × (output_shown n s ≡ m)
shown_ok n line None m e = absurd (grind arith)
shown_ok n line (Some s) m e = ⊎_elim
    (λ t. let q : ◌≡◌ {A = Result Netlist Refusal} (Err (refusal 10 line 0)) (Ok m) = sym (cond-true (shows n s) (Err (refusal 10 line 0)) (Ok (output_shown n s)) t) ∙ e in absurd (grind arith))
    (λ f. let q : Ok (output_shown n s) ≡ Ok m = sym (cond-false (shows n s) (Err (refusal 10 line 0)) (Ok (output_shown n s)) f) ∙ e in let r : output_shown n s ≡ m = cc in (s, refl, f, r))
    (cases_Bool (shows n s))

-- a signal that a name names is there
pub named_there : (n : Netlist) (w : List ℕ) (s : Signal) → Named n → signal n w ≡ Some s → there n.circuit.inputs (length n.circuit.gates) s ≡ true
named_there n w s h e = subst (λ (g : ℕ). there n.circuit.inputs g s ≡ true) h.gates_named (subst (λ (i : ℕ). there i (length n.gate_names) s ≡ true) h.inputs_named (signal_there n w s e))

one_shown : (n : Netlist) (o : OutputLine) (m : Netlist) → Shown n → shown n o.line (signal n o.name) ≡ Ok m → Shown m × (length m.circuit.outputs ≡ length n.circuit.outputs + 1) × (m.circuit.inputs ≡ n.circuit.inputs) × (m.circuit.gates ≡ n.circuit.gates)
one_shown n o m h e =
    let p = shown_ok n o.line (signal n o.name) m e in
    let s = p.0 in
    let Q : Netlist → Type 0 = λ x. Shown x × (length x.circuit.outputs ≡ length n.circuit.outputs + 1) × (x.circuit.inputs ≡ n.circuit.inputs) × (x.circuit.gates ≡ n.circuit.gates) in
    let k = h.named in
    subst Q p.3 (
      record {
        named = record { few_inputs = k.few_inputs; few_gates = k.few_gates; in_order = k.in_order; inputs_named = k.inputs_named; gates_named = k.gates_named; input_names_good = k.input_names_good; gate_names_good = k.gate_names_good; inputs_distinct = k.inputs_distinct; gates_distinct = k.gates_distinct; apart = k.apart };
        there_all = all_push (there n.circuit.inputs (length n.circuit.gates)) n.circuit.outputs s h.there_all (named_there n o.name s h.named p.1);
        different = different_push n.circuit.outputs s h.different p.2;
      },
      length_push n.circuit.outputs s,
      refl,
      refl,
    )

then_ok : {X Y : Type 0} (r : Result X Refusal) (go : X → Result Y Refusal) (y : Y) → and_then r go ≡ Ok y → (x : X) × (r ≡ Ok x) × (go x ≡ Ok y)
then_ok (Ok x) go y e = (x, refl, e)
then_ok (Err f) go y e = absurd (grind arith)

all_shown : (n : Netlist) (os : List OutputLine) (m : Netlist) → Shown n → with_outputs n os ≡ Ok m → Shown m × (length m.circuit.outputs ≡ length n.circuit.outputs + length os) × (m.circuit.inputs ≡ n.circuit.inputs) × (m.circuit.gates ≡ n.circuit.gates)
all_shown n [] m h e =
    let q : n ≡ m = cc in
    let Q : Netlist → Type 0 = λ x. Shown x × (length x.circuit.outputs ≡ length n.circuit.outputs + 0) × (x.circuit.inputs ≡ n.circuit.inputs) × (x.circuit.gates ≡ n.circuit.gates) in
    subst Q q (h, omega arith, refl, refl)
all_shown n (o ∷ os) m h e =
    let t = then_ok (shown n o.line (signal n o.name)) (λ x. with_outputs x os) m e in
    let one = one_shown n o t.0 h t.1 in
    let rest = all_shown t.0 os m one.0 t.2 in
    (rest.0, omega (arith, rest.1, one.1), rest.2 ∙ one.2, rest.3 ∙ one.3)

-- ── the whole text ──
some_long : {X : Type 0} (xs : List X) → none xs ≡ false → 1 ≤ length xs
some_long [] e = absurd (both_ways true e refl)
some_long (x ∷ xs) e = omega arith

finished_sound : (d : Draft) (m : Netlist) → Drawn d → finished d ≡ Ok m → SoundNetlist m
finished_sound d m h e = ⊎_elim
    (λ t. let q : ◌≡◌ {A = Result Netlist Refusal} (Err (refusal 9 0 0)) (Ok m) = sym (cond-true (lacking d) (Err (refusal 9 0 0)) (with_outputs d.netlist d.outputs) t) ∙ e in absurd (grind arith))
    (λ f. whole (sym (cond-false (lacking d) (Err (refusal 9 0 0)) (with_outputs d.netlist d.outputs) f) ∙ e) f)
    (cases_Bool (lacking d))
  where
    n : Netlist
    n = d.netlist

    start : Shown n
    start = record {
      named = h.named;
      there_all = ap (λ (ss : List Signal). list_all (there n.circuit.inputs (length n.circuit.gates)) ss) h.no_outputs;
      different = subst Different (sym h.no_outputs) (λ i j x a b q. absurd (omega arith));
    }

    whole : with_outputs n d.outputs ≡ Ok m → lacking d ≡ false → SoundNetlist m
    whole q f =
        let r = all_shown n d.outputs m start q in
        let s = r.0 in
        let k = s.named in
        let p = or_parts (eqb n.circuit.inputs 0) (none d.outputs || none n.circuit.gates) f in
        let p' = or_parts (none d.outputs) (none n.circuit.gates) p.1 in
        let inputs : n.circuit.inputs ≡ 0 → ⊥ = eqb-false n.circuit.inputs 0 p.0 in
        let zero-outputs : length n.circuit.outputs ≡ 0 = ap length h.no_outputs in
        record {
          circuit = record { few_inputs = k.few_inputs; few_gates = k.few_gates; few_outputs = omega (arith, r.1, zero-outputs, h.few_outputs); in_order = k.in_order; shown = s.there_all };
          an_input = omega (arith, inputs, r.2);
          a_gate = omega (arith, some_long n.circuit.gates p'.1, ap length r.3);
          an_output = omega (arith, some_long d.outputs p'.0, r.1);
          inputs_named = k.inputs_named;
          gates_named = k.gates_named;
          input_names_good = k.input_names_good;
          gate_names_good = k.gate_names_good;
          inputs_distinct = k.inputs_distinct;
          gates_distinct = k.gates_distinct;
          apart = k.apart;
          outputs_different = s.different;
        }

lines_sound : (line : ℕ) (d : Draft) (ls : List (List ℕ)) (m : Netlist) → Drawn d → read_lines line d ls ≡ Ok m → SoundNetlist m
lines_sound line d [] m h e = finished_sound d m h e
lines_sound line d (l ∷ ls) m h e =
    let t = then_ok (read_line d line l) (λ x. read_lines (line + 1) x ls) m e in
    lines_sound (line + 1) t.0 ls m (line_drawn d line l t.0 h t.1) t.2

pub taken_is_sound : TakenIsSound
taken_is_sound text n e = go (leb (length text) 60000) e
  where
    go : (b : Bool) → cond b (read_lines 1 blank (lines text)) (Err (refusal 2 0 0)) ≡ Ok n → SoundNetlist n
    go true q = lines_sound 1 blank (lines text) n blank_drawn q
    go false q = absurd (grind arith)
