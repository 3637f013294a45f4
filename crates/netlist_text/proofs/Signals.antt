-- A name that is found names a signal that is there.
use Rattle.std.proofs.Common.{◌≡◌, ℕ, suc, ◌+◌, ◌<◌, ◌≤◌, true, leb, List, [], ◌∷◌, length, Some, None, Option, sym, refl, ap, ◌∙◌, subst, ⊎_elim, arith}
use Rattle.std.proofs.lemmas.Bool.{cond-true, cond-false, cases_Bool, and_from, le-leb}
use Rattle.circuit.specs.declared.gate.Signal.{Signal}
use Rattle.circuit.specs.declared.gate.Signal.TheVariants.{Input, Gate}
use Rattle.std.specs.List.{list_all}
use Rattle.circuit.specs.Circuits.{there}
use Rattle.netlist_text.specs.Statements.{Name}
use Rattle.netlist_text.specs.Netlists.{Netlist, same_name, find, either, signal, joined_to, signals}

pub find_within : (k : ℕ) (xs : List Name) (n : Name) (i : ℕ) → find k xs n ≡ Some i → (k ≤ i) × (i < k + length xs)
find_within k [] n i e = absurd (grind arith)
find_within k (x ∷ xs) n i e =
    ⊎_elim
    (λ t. let q : Some k ≡ Some i = sym (cond-true (same_name x n) (Some k) (find (k + 1) xs n) t) ∙ e in let r : k ≡ i = cc in (omega arith, omega arith))
    (λ f. let h = find_within (k + 1) xs n i (sym (cond-false (same_name x n) (Some k) (find (k + 1) xs n) f) ∙ e) in (omega arith, omega arith))
    (cases_Bool (same_name x n))

either_there : (I G : ℕ) (a b : Option ℕ) (s : Signal) → either a b ≡ Some s → ((i : ℕ) → a ≡ Some i → (1 ≤ i) × (i ≤ I)) → ((g : ℕ) → b ≡ Some g → (1 ≤ g) × (g ≤ G)) → there I G s ≡ true
either_there I G (Some i) b s e ha hb = let q : Input i ≡ s = cc in let h = ha i refl in subst (λ (x : Signal). there I G x ≡ true) q (and_from (leb 1 i) (leb i I) (le-leb 1 i h.0) (le-leb i I h.1))
either_there I G None (Some g) s e ha hb = let q : Gate g ≡ s = cc in let h = hb g refl in subst (λ (x : Signal). there I G x ≡ true) q (and_from (leb 1 g) (leb g G) (le-leb 1 g h.0) (le-leb g G h.1))
either_there I G None None s e ha hb = absurd (grind arith)

pub signal_there : (n : Netlist) (w : Name) (s : Signal) → signal n w ≡ Some s → there (length n.input_names) (length n.gate_names) s ≡ true
signal_there n w s e =
    either_there _ _ (find 1 n.input_names w) (find 1 n.gate_names w) s e
    (λ i q. let h = find_within 1 n.input_names w i q in (h.0, omega arith))
    (λ g q. let h = find_within 1 n.gate_names w g q in (h.0, omega arith))

joined_some : (a : Option Signal) (b : Option (List Signal)) (ss : List Signal) → joined_to a b ≡ Some ss → (s : Signal) × (rest : List Signal) × (a ≡ Some s) × (b ≡ Some rest) × (ss ≡ s ∷ rest)
joined_some None b ss e = absurd (grind arith)
joined_some (Some s) None ss e = absurd (grind arith)
joined_some (Some s) (Some rest) ss e = let q : ss ≡ s ∷ rest = cc in (s, rest, refl, refl, q)

pub signals_there : (n : Netlist) (ws : List Name) (ss : List Signal) → signals n ws ≡ Some ss → (list_all (there (length n.input_names) (length n.gate_names)) ss ≡ true) × (length ss ≡ length ws)
signals_there n [] ss e = let q : [] ≡ ss = cc in (subst (λ (l : List Signal). list_all (there (length n.input_names) (length n.gate_names)) l ≡ true) q refl, ap length (sym q))
signals_there n (w ∷ ws) ss e =
    let p = joined_some (signal n w) (signals n ws) ss e in
    let r = signals_there n ws p.1 p.3 in
    let t = there (length n.input_names) (length n.gate_names) in
    (subst (λ (l : List Signal). list_all t l ≡ true) (sym p.4) (and_from (t p.0) (list_all t p.1) (signal_there n w p.0 p.2) r.0), ap length p.4 ∙ ap suc r.1)
