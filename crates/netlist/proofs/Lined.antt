-- One line of a text, from its statement.
use Rattle.std.proofs.Common.{◌≡◌, ℕ, ◌<◌, Bool, true, false, ltb, leb, List, length, Some, None, Ok, Err, Option, Result, sym, refl, ap, ◌∙◌, arith}
use Rattle.std.proofs.lemmas.Bool.{cond-false, both_ways, ltb-true, and_right, lt-leb, ne_eqb}
use Rattle.circuit.specs.declared.kind.Kind.{Kind}
use Rattle.circuit.specs.declared.kind.Kind.TheVariants.{And, Or, Nand, Nor, Xor, Xnor, Not}
use Rattle.circuit.specs.declared.gate.Signal.{Signal}
use Rattle.circuit.specs.Kinds.{takes}
use Rattle.netlist_text.specs.Words.{lexemes, stray, skipped}
use Rattle.netlist_text.specs.Statements.{Name, Statement, input, output, gate, statement}
use Rattle.netlist_text.specs.Netlists.{Draft, signals}
use Rattle.refusal.specs.Asking.{ask}
use Rattle.netlist_text.specs.Meaning.{new, input_added, output_added, gate_added, connected, admitted, refusal, on_line, formed, clean, read_line}
use Rattle.scanner.specs.Parsed.{crowded}
use Rattle.netlist.specs.declared.fault.LineFault.{LineFault}
use Rattle.netlist.specs.declared.fault.LineFault.TheVariants as fault
use Rattle.netlist.specs.Faults.{told, told_on}
use Rattle.netlist.proofs.Admitted.{no}

-- ── what is asked of a statement is never the question of the bytes, so it has no column ──
ask_apart : (q : ℕ) (so : Bool) (r : Result Draft ℕ) → (q ≡ 3 → ⊥) → (r ≡ Err 3 → ⊥) → ask q so r ≡ Err 3 → ⊥
ask_apart q true r h k e = k e
ask_apart q false r h k e = let z : q ≡ 3 = cc in h z

ok_apart : (d : Draft) → ◌≡◌ {A = Result Draft ℕ} (Ok d) (Err 3) → ⊥
ok_apart d e = grind arith

connected_apart : (d : Draft) (n : Name) (k : Kind) (o : Option (List Signal)) → connected d n k o ≡ Err 3 → ⊥
connected_apart d n k None e = let z : ◌≡◌ {A = ℕ} 7 3 = cc in omega arith
connected_apart d n k (Some ss) e = ask_apart 8 (ltb (length d.netlist.circuit.gates) 256) (Ok (gate_added d n k ss)) (λ z. omega arith) (ok_apart (gate_added d n k ss)) e

admitted_apart : (d : Draft) (line : ℕ) (s : Statement) → admitted d line s ≡ Err 3 → ⊥
admitted_apart d line (input n) e = ask_apart 6 (new d n) (ask 8 (ltb d.netlist.circuit.inputs 64) (Ok (input_added d n))) (λ z. omega arith) (ask_apart 8 (ltb d.netlist.circuit.inputs 64) (Ok (input_added d n)) (λ z. omega arith) (ok_apart (input_added d n))) e
admitted_apart d line (output n) e = ask_apart 8 (ltb (length d.outputs) 64) (Ok (output_added d line n)) (λ z. omega arith) (ok_apart (output_added d line n)) e
admitted_apart d line (gate n k ns) e = ask_apart 5 (takes k (length ns)) (ask 6 (new d n) (connected d n k (signals d.netlist ns))) (λ z. omega arith) (ask_apart 6 (new d n) (connected d n k (signals d.netlist ns)) (λ z. omega arith) (connected_apart d n k (signals d.netlist ns))) e

on_its_line : {X : Type 0} (line : ℕ) (r : Result X LineFault) (d : Draft) (x : Result Draft ℕ) → told r d ≡ x → (x ≡ Err 3 → ⊥) → told_on line r d ≡ on_line line x
on_its_line line (Ok u) d x e h = ap (on_line line) e
on_its_line line (Err (fault.Byte f)) d x e h = absurd (h (sym e))
on_its_line line (Err fault.Form) d x e h = ap (on_line line) e
on_its_line line (Err fault.OperandCount) d x e h = ap (on_line line) e
on_its_line line (Err fault.Redefined) d x e h = ap (on_line line) e
on_its_line line (Err fault.Undefined) d x e h = ap (on_line line) e
on_its_line line (Err fault.Full) d x e h = ap (on_line line) e

-- ── a line that is not skipped, whose bytes may all stand there ──
module _ (d : Draft) (line : ℕ) (l : List ℕ) (s : skipped l ≡ false) (e : stray 1 l ≡ None) where
  line_formed : read_line d line l ≡ formed d line (statement (lexemes l))
  line_formed = cond-false (skipped l) (Ok d) (clean d line l (stray 1 l)) s ∙ ap (clean d line l) e

  pub statement_read : {X : Type 0} (r : Result X LineFault) (after : Draft) (f : Statement) → statement (lexemes l) ≡ Some f → told r after ≡ admitted d line f → told_on line r after ≡ read_line d line l
  statement_read r after f q t = on_its_line line r after (admitted d line f) t (admitted_apart d line f) ∙ sym (line_formed ∙ ap (formed d line) q)

  pub crowded_refused : crowded (statement (lexemes l)) ≡ true → read_line d line l ≡ Err (refusal 5 line 0)
  crowded_refused h = line_formed ∙ refused (statement (lexemes l)) h
    where
      no_kind : (k : Kind) (n : ℕ) → 8 < n → takes k n ≡ false
      no_kind And n h = and_right (leb 2 n) (leb n 8) (lt-leb n 8 h)
      no_kind Or n h = and_right (leb 2 n) (leb n 8) (lt-leb n 8 h)
      no_kind Nand n h = and_right (leb 2 n) (leb n 8) (lt-leb n 8 h)
      no_kind Nor n h = and_right (leb 2 n) (leb n 8) (lt-leb n 8 h)
      no_kind Xor n h = ne_eqb n 2 (λ z. omega arith)
      no_kind Xnor n h = ne_eqb n 2 (λ z. omega arith)
      no_kind Not n h = ne_eqb n 1 (λ z. omega arith)

      refused : (o : Option Statement) → crowded o ≡ true → formed d line o ≡ Err (refusal 5 line 0)
      refused None h = absurd (both_ways false refl h)
      refused (Some (input n)) h = absurd (both_ways false refl h)
      refused (Some (output n)) h = absurd (both_ways false refl h)
      refused (Some (gate n k ns)) h = ap (on_line line) (no 5 (takes k (length ns)) (ask 6 (new d n) (connected d n k (signals d.netlist ns))) (no_kind k (length ns) (ltb-true 8 (length ns) h)))
