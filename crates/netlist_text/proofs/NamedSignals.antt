-- In a sound netlist the name of a signal is good, and gives back that signal, also while later gates are yet to come.
--   Begins   a netlist with the inputs of another and the first of its gates
use Rattle.std.proofs.Common.{◌≡◌, ℕ, zero, suc, ◌<◌, ◌≤◌, true, ◌&&◌, leb, List, [], ◌∷◌, ◌++◌, map, length, get_or, Some, None, sym, refl, ap, ◌∙◌, subst, arith}
use Rattle.std.proofs.lemmas.List.{append-nil, length-append}
use Rattle.std.proofs.lemmas.Bool.{and_parts, and_from, leb-true}
use Rattle.circuit.specs.declared.gate.Signal.{Signal}
use Rattle.circuit.specs.declared.gate.Signal.TheVariants.{Input, Gate}
use Rattle.std.specs.List.{list_all}
use Rattle.circuit.specs.Circuits.{there}
use Rattle.circuit.proofs.Tested.{all_at}
use Rattle.netlist_text.specs.Statements.{Name}
use Rattle.netlist_text.specs.Netlists.{Netlist, find, either, signal, joined_to, signals}
use Rattle.netlist_text.specs.Law.{good_name, Distinct, SoundNetlist}
use Rattle.netlist_text.specs.Written.{name_of}
use Rattle.netlist_text.proofs.FoundNames.{own_number, other_names}

pub record Begins (m n : Netlist) : Type 0 where
  pub inputs : m.input_names ≡ n.input_names
  pub later : List Name
  pub gates : m.gate_names ++ later ≡ n.gate_names

-- from 1 to so many
number_bounds : (i k : ℕ) → (leb 1 i && leb i k) ≡ true → (1 ≤ i) × (i ≤ k)
number_bounds i k e = let p = and_parts (leb 1 i) (leb i k) e in (leb-true 1 i p.0, leb-true i k p.1)

-- ── the name is good ──
module _ (n : Netlist) (sound : SoundNetlist n) where
  pub name_of_good : (s : Signal) → there n.circuit.inputs (length n.circuit.gates) s ≡ true → good_name (name_of n s) ≡ true
  name_of_good (Input zero) e = absurd (omega (arith, (number_bounds zero n.circuit.inputs e).0))
  name_of_good (Input (suc i)) e = all_at good_name n.input_names i [] (omega (arith, (number_bounds (suc i) n.circuit.inputs e).1, sound.inputs_named)) sound.input_names_good
  name_of_good (Gate zero) e = absurd (omega (arith, (number_bounds zero (length n.circuit.gates) e).0))
  name_of_good (Gate (suc g)) e = all_at good_name n.gate_names g [] (omega (arith, (number_bounds (suc g) (length n.circuit.gates) e).1, sound.gates_named)) sound.gate_names_good

  pub names_of_good : (ss : List Signal) → list_all (there n.circuit.inputs (length n.circuit.gates)) ss ≡ true → list_all good_name (map (name_of n) ss) ≡ true
  names_of_good [] e = refl
  names_of_good (s ∷ ss) e =
      let t = there n.circuit.inputs (length n.circuit.gates) in
      let p = and_parts (t s) (list_all t ss) e in
      and_from (good_name (name_of n s)) (list_all good_name (map (name_of n) ss)) (name_of_good s p.0) (names_of_good ss p.1)

-- ── the name gives back the signal ──
own_all : (xs : List Name) (i : ℕ) → Distinct xs → i < length xs → find 1 xs (get_or xs i []) ≡ Some (suc i)
own_all xs i d h =
    subst (λ (ys : List Name). find 1 xs (get_or ys i []) ≡ Some (suc i)) (append-nil xs) (own_number xs [] i (subst Distinct (sym (append-nil xs)) d) h)

module _ (m n : Netlist) (begins : Begins m n) (sound : SoundNetlist n) where
  input_found : (i : ℕ) → i < length m.input_names → find 1 m.input_names (get_or n.input_names i []) ≡ Some (suc i)
  input_found i h =
      subst (λ (xs : List Name). find 1 xs (get_or n.input_names i []) ≡ Some (suc i)) (sym begins.inputs)
      (own_all n.input_names i sound.inputs_distinct (subst (λ (xs : List Name). i < length xs) begins.inputs h))

  input_not_found : (g : ℕ) → g < length m.gate_names → find 1 m.input_names (get_or n.gate_names g []) ≡ None
  input_not_found g h =
      subst (λ (xs : List Name). find 1 xs (get_or n.gate_names g []) ≡ None) (sym begins.inputs)
      (other_names n.input_names n.gate_names g sound.apart (omega (arith, ap length begins.gates, length-append m.gate_names begins.later)))

  gate_found : (g : ℕ) → g < length m.gate_names → find 1 m.gate_names (get_or n.gate_names g []) ≡ Some (suc g)
  gate_found g h =
      subst (λ (xs : List Name). find 1 m.gate_names (get_or xs g []) ≡ Some (suc g)) begins.gates
      (own_number m.gate_names begins.later g (subst Distinct (sym begins.gates) sound.gates_distinct) h)

  pub signal_of_name : (s : Signal) → there (length m.input_names) (length m.gate_names) s ≡ true → signal m (name_of n s) ≡ Some s
  signal_of_name (Input zero) e = absurd (omega (arith, (number_bounds zero (length m.input_names) e).0))
  signal_of_name (Input (suc i)) e = ap (λ o. either o (find 1 m.gate_names (get_or n.input_names i []))) (input_found i (omega (arith, (number_bounds (suc i) (length m.input_names) e).1)))
  signal_of_name (Gate zero) e = absurd (omega (arith, (number_bounds zero (length m.gate_names) e).0))
  signal_of_name (Gate (suc g)) e =
      let h : g < length m.gate_names = omega (arith, (number_bounds (suc g) (length m.gate_names) e).1) in
      ap (λ o. either o (find 1 m.gate_names (get_or n.gate_names g []))) (input_not_found g h) ∙ ap (either None) (gate_found g h)

  pub signals_of_names : (ss : List Signal) → list_all (there (length m.input_names) (length m.gate_names)) ss ≡ true → signals m (map (name_of n) ss) ≡ Some ss
  signals_of_names [] e = refl
  signals_of_names (s ∷ ss) e =
      let t = there (length m.input_names) (length m.gate_names) in
      let p = and_parts (t s) (list_all t ss) e in
      ap (λ o. joined_to o (signals m (map (name_of n) ss))) (signal_of_name s p.0) ∙ ap (joined_to (Some s)) (signals_of_names ss p.1)
