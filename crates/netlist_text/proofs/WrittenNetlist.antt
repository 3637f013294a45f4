-- The statements of a sound netlist are writable, and their text is short enough to be read.
use Rattle.std.proofs.Common.{◌≡◌, ℕ, suc, ◌+◌, ◌≤◌, Bool, true, not, ◌&&◌, leb, List, [], ◌∷◌, ◌++◌, map, length, refl, ap, ◌∙◌, arith}
use Rattle.std.proofs.lemmas.List.{length-append, length-map}
use Rattle.std.proofs.lemmas.Bool.{and_parts, and_from, leb-true, eqb-true}
use Rattle.circuit.specs.declared.kind.Kind.{Kind}
use Rattle.circuit.specs.declared.kind.Kind.TheVariants.{And, Or, Nand, Nor, Xor, Xnor, Not}
use Rattle.circuit.specs.Kinds.{takes, several}
use Rattle.std.specs.List.{list_all}
use Rattle.circuit.specs.Circuits.{Gate, there, fits, wired}
use Rattle.circuit.proofs.Wiring.{all_there_more}
use Rattle.netlist_text.specs.Statements.{Name, Statement, input, output, gate, none}
use Rattle.netlist_text.specs.Netlists.{Netlist}
use Rattle.netlist_text.specs.Law.{good_name, SoundNetlist}
use Rattle.netlist_text.specs.Written.{text_of, name_of, gate_statements, statements}
use Rattle.netlist_text.proofs.Tested.{all_append, all_map, some_from_length}
use Rattle.netlist_text.proofs.WrittenWords.{writable}
use Rattle.netlist_text.proofs.WrittenLength.{within, input_within, output_within, gate_within, text_append, text_length}
use Rattle.netlist_text.proofs.NamedSignals.{name_of_good, names_of_good}

-- ── how many operands ──
several_bounds : (m : ℕ) → several m ≡ true → (1 ≤ m) × (m ≤ 8)
several_bounds m e = let p = and_parts (leb 2 m) (leb m 8) e in (omega (arith, leb-true 2 m p.0), leb-true m 8 p.1)

takes_bounds : (k : Kind) (m : ℕ) → takes k m ≡ true → (1 ≤ m) × (m ≤ 8)
takes_bounds And m e = several_bounds m e
takes_bounds Or m e = several_bounds m e
takes_bounds Nand m e = several_bounds m e
takes_bounds Nor m e = several_bounds m e
takes_bounds Xor m e = let h = eqb-true m 2 e in (omega arith, omega arith)
takes_bounds Xnor m e = let h = eqb-true m 2 e in (omega arith, omega arith)
takes_bounds Not m e = let h = eqb-true m 1 e in (omega arith, omega arith)

-- ── what a test says of each part ──
-- a test passes gates with good names and from 1 to 8 operands
abbrev PassesGates : (Statement → Bool) → Type 0
PassesGates p = (w : Name) (k : Kind) (ns : List Name) → good_name w ≡ true → not (none ns) ≡ true → list_all good_name ns ≡ true → length ns ≤ 8 → p (gate w k ns) ≡ true

module _ (n : Netlist) (sound : SoundNetlist n) (p : Statement → Bool) where
  inputs_pass : ((w : Name) → good_name w ≡ true → p (input w) ≡ true) → list_all p (map input n.input_names) ≡ true
  inputs_pass h = all_map good_name p input n.input_names h sound.input_names_good

  outputs_pass : ((w : Name) → good_name w ≡ true → p (output w) ≡ true) → list_all p (map (λ s. output (name_of n s)) n.circuit.outputs) ≡ true
  outputs_pass h =
      all_map (there n.circuit.inputs (length n.circuit.gates)) p (λ s. output (name_of n s)) n.circuit.outputs
      (λ s t. h (name_of n s) (name_of_good n sound s t)) sound.circuit.shown

  gates_pass_from : PassesGates p → (m : ℕ) (ws : List Name) (gs : List Gate) → m + length gs ≤ length n.circuit.gates → list_all good_name ws ≡ true → wired n.circuit.inputs m gs ≡ true → list_all p (gate_statements n ws gs) ≡ true
  gates_pass_from h m [] gs few e wd = refl
  gates_pass_from h m (w ∷ ws) [] few e wd = refl
  gates_pass_from h m (w ∷ ws) (g ∷ gs) few e wd =
      let I = n.circuit.inputs in
      let names = map (name_of n) g.operands in
      let q = and_parts (good_name w) (list_all good_name ws) e in
      let r = and_parts (fits I m g) (wired I (suc m) gs) wd in
      let f = and_parts (takes g.kind (length g.operands)) (list_all (there I m) g.operands) r.0 in
      let b = takes_bounds g.kind (length g.operands) f.0 in
      let len = length-map g.operands (name_of n) in
      let here = h w g.kind names q.0 (some_from_length names (omega arith)) (names_of_good n sound g.operands (all_there_more I I m (length n.circuit.gates) g.operands (omega arith) (omega arith) f.1)) (omega arith) in
      and_from (p (gate w g.kind names)) (list_all p (gate_statements n ws gs)) here (gates_pass_from h (suc m) ws gs (omega arith) q.1 r.1)

  gates_pass : PassesGates p → list_all p (gate_statements n n.gate_names n.circuit.gates) ≡ true
  gates_pass h = gates_pass_from h 0 n.gate_names n.circuit.gates (omega arith) sound.gate_names_good sound.circuit.in_order

-- ── the statements ──
pub statements_writable : (n : Netlist) → SoundNetlist n → list_all writable (statements n) ≡ true
statements_writable n sound =
    let gates = gate_statements n n.gate_names n.circuit.gates in
    let outputs = map (λ s. output (name_of n s)) n.circuit.outputs in
    all_append writable (map input n.input_names) (gates ++ outputs) (inputs_pass n sound writable (λ w h. h))
    (all_append writable gates outputs
    (gates_pass n sound writable (λ w k ns h s a few. and_from (good_name w) (not (none ns) && list_all good_name ns) h (and_from (not (none ns)) (list_all good_name ns) s a)))
    (outputs_pass n sound writable (λ w h. h)))

gate_statements_length : (n : Netlist) (ws : List Name) (gs : List Gate) → length (gate_statements n ws gs) ≤ length gs
gate_statements_length n [] gs = omega arith
gate_statements_length n (w ∷ ws) [] = omega arith
gate_statements_length n (w ∷ ws) (g ∷ gs) = omega (arith, gate_statements_length n ws gs)

pub text_short : (n : Netlist) → SoundNetlist n → length (text_of (statements n)) ≤ 60000
text_short n sound =
    let inputs = map input n.input_names in
    let gates = gate_statements n n.gate_names n.circuit.gates in
    let outputs = map (λ s. output (name_of n s)) n.circuit.outputs in
    let a = text_length 25 inputs (inputs_pass n sound (within 25) input_within) in
    let b = text_length 169 gates (gates_pass n sound (within 169) gate_within) in
    let c = text_length 25 outputs (outputs_pass n sound (within 25) output_within) in
    let whole = ap length (text_append inputs (gates ++ outputs)) ∙ length-append (text_of inputs) (text_of (gates ++ outputs)) in
    let rest = ap length (text_append gates outputs) ∙ length-append (text_of gates) (text_of outputs) in
    let i = length-map n.input_names input in
    let g = gate_statements_length n n.gate_names n.circuit.gates in
    let o = length-map n.circuit.outputs (λ s. output (name_of n s)) in
    omega (arith, sound.inputs_named, sound.circuit.few_inputs, sound.circuit.few_gates, sound.circuit.few_outputs)
