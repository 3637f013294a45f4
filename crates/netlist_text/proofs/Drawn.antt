-- A draft stays in order, statement by statement and line by line.
use Rattle.std.proofs.Common.{◌≡◌, ℕ, suc, ◌+◌, ◌<◌, ◌≤◌, Bool, true, false, cond, ltb, List, [], length, get_or, is_some, Some, None, Ok, Err, Option, Result, sym, refl, ap, ◌∙◌, subst, zero-add, arith}
use Rattle.std.proofs.lemmas.List.{length_push}
use Rattle.std.proofs.lemmas.Bool.{both_ways, ltb-true, and_parts, and_from, not-true}
use Rattle.refusal.specs.declared.Refusal.{Refusal}
use Rattle.circuit.specs.declared.kind.Kind.{Kind}
use Rattle.circuit.specs.declared.gate.Signal.{Signal}
use Rattle.circuit.specs.Kinds.{takes}
use Rattle.std.specs.List.{list_all}
use Rattle.circuit.specs.Circuits.{Gate, there, fits, wired}
use Rattle.circuit.proofs.Tested.{all_push}
use Rattle.circuit.proofs.Wiring.{wired_more, wired_push}
use Rattle.netlist_text.specs.Words.{lexemes, stray, skipped}
use Rattle.netlist_text.specs.Statements.{Name, Statement, input, output, gate, statement}
use Rattle.netlist_text.specs.Netlists.{Netlist, OutputLine, Draft, blank, same_name, find, either, signal, signals}
use Rattle.refusal.specs.Asking.{ask}
use Rattle.netlist_text.specs.Meaning.{input_added, output_added, gate_added, new, connected, admitted, on_line, formed, clean, read_line}
use Rattle.netlist_text.specs.Law.{good_name, Distinct, Apart}
use Rattle.netlist_text.proofs.Signals.{signals_there}
use Rattle.netlist_text.proofs.GoodNames.{good_statement, statement_good}
use Rattle.netlist_text.proofs.Distinct.{not_found, distinct_push, apart_push, apart_more}

-- a netlist within the limits, in order, whose signals have good names, each its own; nothing is said of its outputs
pub record Named (n : Netlist) : Type 0 where
  pub few_inputs : n.circuit.inputs ≤ 64
  pub few_gates : length n.circuit.gates ≤ 256
  pub in_order : wired n.circuit.inputs 0 n.circuit.gates ≡ true
  pub inputs_named : length n.input_names ≡ n.circuit.inputs
  pub gates_named : length n.gate_names ≡ length n.circuit.gates
  pub input_names_good : list_all good_name n.input_names ≡ true
  pub gate_names_good : list_all good_name n.gate_names ≡ true
  pub inputs_distinct : Distinct n.input_names
  pub gates_distinct : Distinct n.gate_names
  pub apart : Apart n.input_names n.gate_names

pub record Drawn (d : Draft) : Type 0 where
  pub named : Named d.netlist
  pub few_outputs : length d.outputs ≤ 64
  pub no_outputs : d.netlist.circuit.outputs ≡ []

pub blank_drawn : Drawn blank
blank_drawn = record {
  named = record {
    few_inputs = omega arith;
    few_gates = omega arith;
    in_order = refl;
    inputs_named = refl;
    gates_named = refl;
    input_names_good = refl;
    gate_names_good = refl;
    inputs_distinct = λ i j h k e. absurd (omega arith);
    gates_distinct = λ i j h k e. absurd (omega arith);
    apart = λ i j h k. absurd (omega arith);
  };
  few_outputs = omega arith;
  no_outputs = refl;
}

-- ── a new name ──
either_none : (a b : Option ℕ) → is_some (either a b) ≡ false → (a ≡ None) × (b ≡ None)
either_none (Some i) b e = absurd (both_ways true e refl)
either_none None (Some g) e = absurd (both_ways true e refl)
either_none None None e = (refl, refl)

-- the inputs' names, and then the gates', are others
other_names : (d : Draft) (n : Name) → new d n ≡ true → ((i : ℕ) → i < length d.netlist.input_names → same_name (get_or d.netlist.input_names i []) n ≡ false) × ((i : ℕ) → i < length d.netlist.gate_names → same_name (get_or d.netlist.gate_names i []) n ≡ false)
other_names d n e =
    let p = either_none (find 1 d.netlist.input_names n) (find 1 d.netlist.gate_names n) (not-true (is_some (signal d.netlist n)) e) in
    (not_found 1 d.netlist.input_names n p.0, not_found 1 d.netlist.gate_names n p.1)

-- ── one statement more ──
ask_ok : (q : ℕ) (so : Bool) (r : Result Draft ℕ) (d : Draft) → ask q so r ≡ Ok d → (so ≡ true) × (r ≡ Ok d)
ask_ok q true r d e = (refl, e)
ask_ok q false r d e = absurd (grind arith)

connected_ok : (d : Draft) (n : Name) (k : Kind) (o : Option (List Signal)) (e : Draft) → connected d n k o ≡ Ok e → (ss : List Signal) × (o ≡ Some ss) × (ltb (length d.netlist.circuit.gates) 256 ≡ true) × (gate_added d n k ss ≡ e)
connected_ok d n k None e h = absurd (grind arith)
connected_ok d n k (Some ss) e h =
    let a = ask_ok 8 (ltb (length d.netlist.circuit.gates) 256) (Ok (gate_added d n k ss)) e h in
    let r = a.1 in
    let q : gate_added d n k ss ≡ e = cc in
    (ss, refl, a.0, q)

admit_drawn : (d : Draft) (line : ℕ) (f : Statement) (e : Draft) → Drawn d → good_statement f ≡ true → admitted d line f ≡ Ok e → Drawn e
admit_drawn d line (input n) e h g r =
    let a1 = ask_ok 6 (new d n) (ask 8 (ltb d.netlist.circuit.inputs 64) (Ok (input_added d n))) e r in
    let a2 = ask_ok 8 (ltb d.netlist.circuit.inputs 64) (Ok (input_added d n)) e a1.1 in
    let z = a2.1 in
    let q : input_added d n ≡ e = cc in
    let other = other_names d n a1.0 in
    let I = d.netlist.circuit.inputs in
    let few : I < 64 = ltb-true I 64 a2.0 in
    subst Drawn q (record {
      named = record {
        few_inputs = omega arith;
        few_gates = h.named.few_gates;
        in_order = wired_more I (suc I) 0 d.netlist.circuit.gates (omega arith) h.named.in_order;
        inputs_named = omega (arith, length_push d.netlist.input_names n, h.named.inputs_named);
        gates_named = h.named.gates_named;
        input_names_good = all_push good_name d.netlist.input_names n h.named.input_names_good g;
        gate_names_good = h.named.gate_names_good;
        inputs_distinct = distinct_push d.netlist.input_names n h.named.inputs_distinct other.0;
        gates_distinct = h.named.gates_distinct;
        apart = apart_more d.netlist.input_names d.netlist.gate_names n h.named.apart other.1;
      };
      few_outputs = h.few_outputs;
      no_outputs = h.no_outputs;
    })
admit_drawn d line (output n) e h g r =
    let a = ask_ok 8 (ltb (length d.outputs) 64) (Ok (output_added d line n)) e r in
    let z = a.1 in
    let q : output_added d line n ≡ e = cc in
    let made : OutputLine = record { line = line; name = n } in
    let few : length d.outputs < 64 = ltb-true (length d.outputs) 64 a.0 in
    subst Drawn q (record {
      named = h.named;
      few_outputs = omega (arith, length_push d.outputs made);
      no_outputs = h.no_outputs;
    })
admit_drawn d line (gate n k ns) e h g r =
    let a1 = ask_ok 5 (takes k (length ns)) (ask 6 (new d n) (connected d n k (signals d.netlist ns))) e r in
    let a2 = ask_ok 6 (new d n) (connected d n k (signals d.netlist ns)) e a1.1 in
    let w = connected_ok d n k (signals d.netlist ns) e a2.1 in
    let ss = w.0 in
    let other = other_names d n a2.0 in
    let found = signals_there d.netlist ns ss w.1 in
    let I = d.netlist.circuit.inputs in
    let gs = d.netlist.circuit.gates in
    let made : Gate = record { kind = k; operands = ss } in
    let few : length gs < 256 = ltb-true (length gs) 256 w.2 in
    let fit : fits I (0 + length gs) made ≡ true = and_from (takes k (length ss)) (list_all (there I (0 + length gs)) ss) (ap (takes k) found.1 ∙ a1.0)
    (subst (λ (m : ℕ). list_all (there I m) ss ≡ true) (h.named.gates_named ∙ sym (zero-add (length gs))) (subst (λ (j : ℕ). list_all (there j (length d.netlist.gate_names)) ss ≡ true) h.named.inputs_named found.0)) in
    subst Drawn w.3 (record {
      named = record {
        few_inputs = h.named.few_inputs;
        few_gates = omega (arith, length_push gs made);
        in_order = wired_push I 0 gs made h.named.in_order fit;
        inputs_named = h.named.inputs_named;
        gates_named = length_push d.netlist.gate_names n ∙ ap (λ m. m + 1) h.named.gates_named ∙ sym (length_push gs made);
        input_names_good = h.named.input_names_good;
        gate_names_good = all_push good_name d.netlist.gate_names n h.named.gate_names_good (and_parts (good_name n) (list_all good_name ns) g).0;
        inputs_distinct = h.named.inputs_distinct;
        gates_distinct = distinct_push d.netlist.gate_names n h.named.gates_distinct other.1;
        apart = apart_push d.netlist.input_names d.netlist.gate_names n h.named.apart other.0;
      };
      few_outputs = h.few_outputs;
      no_outputs = h.no_outputs;
    })

-- ── one line more ──
on_line_ok : (line : ℕ) (r : Result Draft ℕ) (d : Draft) → on_line line r ≡ Ok d → r ≡ Ok d
on_line_ok line (Ok c) d e = let q : c ≡ d = cc in ap (λ (x : Draft). Ok x) q
on_line_ok line (Err q) d e = absurd (grind arith)

formed_drawn : (d : Draft) (line : ℕ) (o : Option Statement) (e : Draft) → Drawn d → ((f : Statement) → o ≡ Some f → good_statement f ≡ true) → formed d line o ≡ Ok e → Drawn e
formed_drawn d line None e h g r = absurd (grind arith)
formed_drawn d line (Some f) e h g r = admit_drawn d line f e h (g f refl) (on_line_ok line (admitted d line f) e r)

clean_drawn : (d : Draft) (line : ℕ) (l : List ℕ) (o : Option ℕ) (e : Draft) → Drawn d → clean d line l o ≡ Ok e → Drawn e
clean_drawn d line l (Some k) e h r = absurd (grind arith)
clean_drawn d line l None e h r = formed_drawn d line (statement (lexemes l)) e h (statement_good l) r

skipped_drawn : (b : Bool) (d : Draft) (r : Result Draft Refusal) (e : Draft) → Drawn d → (r ≡ Ok e → Drawn e) → cond b (Ok d) r ≡ Ok e → Drawn e
skipped_drawn true d r e h k q = let s : d ≡ e = cc in subst Drawn s h
skipped_drawn false d r e h k q = k q

pub line_drawn : (d : Draft) (line : ℕ) (l : List ℕ) (e : Draft) → Drawn d → read_line d line l ≡ Ok e → Drawn e
line_drawn d line l e h r = skipped_drawn (skipped l) d (clean d line l (stray 1 l)) e h (clean_drawn d line l (stray 1 l) e h) r
