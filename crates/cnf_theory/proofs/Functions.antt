-- The clauses of a gate's function hold just where the gate's variable has the value that its kind gives; and so for the selection.
use Rattle.std.proofs.Common.{◌≡◌, ℕ, Bool, true, false, cond, not, ◌&&◌, ◌||◌, ◌↔◌, List, [], ◌∷◌, ◌++◌, map, length, sym, refl, ap, ◌∙◌, subst, arith}
use mathlib.Core.Bool.{false≢true}
use Rattle.std.specs.List.{flat_map}
use Rattle.std.proofs.lemmas.Bool.{eqb-true}
use Rattle.circuit.specs.declared.kind.Kind.{Kind}
use Rattle.circuit.specs.declared.kind.Kind.TheVariants.{And, Or, Nand, Nor, Xor, Xnor, Not}
use Rattle.std.specs.List.{list_all, list_any}
use Rattle.circuit.specs.Kinds.{takes, gives}
use Rattle.cnf_theory.specs.Literals.{Row, Clause, signed, true_in, some_true_in, Holds}
use Rattle.cnf_theory.specs.Gates.{conjunction, rows, excluding, tabled, function}
use Rattle.cnf_theory.proofs.Clauses.{holds_left, holds_right, holds_both, sign_turned}

-- ── a conjunction of literals ──
-- whether the literals of all operands are true
abbrev every : Row → Bool → List ℕ → Bool
every ρ y xs = list_all (λ a. true_in ρ (signed y a)) xs

-- (-x, y) for each operand: where x is true, every y is
each_sound : (ρ : Row) (x y : Bool) (l : ℕ) (xs : List ℕ) → Holds ρ (map (λ a. signed (not x) l ∷ signed y a ∷ []) xs) → true_in ρ (signed x l) ≡ true → every ρ y xs ≡ true
each_sound ρ x y l [] h e = refl
each_sound ρ x y l (a ∷ xs) h e = go (true_in ρ (signed y a)) (true_in ρ (signed (not x) l)) (sign_turned ρ x l ∙ ap not e) h.0 (each_sound ρ x y l xs h.1 e)
  where
    go : (v n : Bool) → n ≡ false → n || (v || false) ≡ true → every ρ y xs ≡ true → v && every ρ y xs ≡ true
    go true n e c r = r
    go false true e c r = sym e
    go false false e c r = c

each_complete : (ρ : Row) (x y : Bool) (l : ℕ) (xs : List ℕ) → (true_in ρ (signed x l) ≡ true → every ρ y xs ≡ true) → Holds ρ (map (λ a. signed (not x) l ∷ signed y a ∷ []) xs)
each_complete ρ x y l [] f = tt
each_complete ρ x y l (a ∷ xs) f = (one (true_in ρ (signed x l)) _ (true_in ρ (signed y a)) (sign_turned ρ x l) (λ g. head _ _ (f g)), each_complete ρ x y l xs (λ g. tail (true_in ρ (signed y a)) _ (f g)))
  where
    head : (v r : Bool) → v && r ≡ true → v ≡ true
    head true r e = refl
    head false r e = e

    tail : (v r : Bool) → v && r ≡ true → r ≡ true
    tail true r e = e
    tail false r e = absurd (false≢true e)

    one : (u n v : Bool) → n ≡ not u → (u ≡ true → v ≡ true) → n || (v || false) ≡ true
    one u true v e f = refl
    one true false v e f = ap (λ b. b || false) (f refl)
    one false false v e f = absurd (false≢true e)

-- the literals turned: one of them is true just if not every one of these is
some_turned : (ρ : Row) (y : Bool) (xs : List ℕ) → some_true_in ρ (map (signed (not y)) xs) ≡ not (every ρ y xs)
some_turned ρ y [] = refl
some_turned ρ y (a ∷ xs) = ap (λ b. b || some_true_in ρ (map (signed (not y)) xs)) (sign_turned ρ y a) ∙ go (true_in ρ (signed y a)) (some_turned ρ y xs)
  where
    go : (v : Bool) → some_true_in ρ (map (signed (not y)) xs) ≡ not (every ρ y xs) → not v || some_true_in ρ (map (signed (not y)) xs) ≡ not (v && every ρ y xs)
    go true e = e
    go false e = refl

settle : (x t : Bool) → (x ≡ true → t ≡ true) → x || not t ≡ true → x ≡ t
settle true true f g = refl
settle true false f g = sym (f refl)
settle false true f g = g
settle false false f g = refl

settled : (x t : Bool) → x ≡ t → x || not t ≡ true
settled true t e = refl
settled false true e = e
settled false false e = refl

pub conjunction_says : (ρ : Row) (x y : Bool) (l : ℕ) (xs : List ℕ) → Holds ρ (conjunction x y l xs) ↔ (true_in ρ (signed x l) ≡ every ρ y xs)
conjunction_says ρ x y l xs =
    let front : List Clause = map (λ a. signed (not x) l ∷ signed y a ∷ []) xs in (
      λ h. settle _ _ (each_sound ρ x y l xs (holds_left ρ front _ h)) (subst (λ (v : Bool). true_in ρ (signed x l) || v ≡ true) (some_turned ρ y xs) (holds_right ρ front _ h).0),
      λ e. holds_both ρ front _ (each_complete ρ x y l xs (λ f. sym e ∙ f)) (subst (λ (v : Bool). true_in ρ (signed x l) || v ≡ true) (sym (some_turned ρ y xs)) (settled _ _ e), tt),
    )

-- ── a table ──
-- a pair of clauses, for 0 and for 1 of a variable: only the one for its value asks for more
of_two : (v : Bool) (r : Bool → Bool) → ((v || r false ≡ true) × (not v || r true ≡ true)) ↔ (r v ≡ true)
of_two true r = (λ h. h.1, λ e. (refl, e))
of_two false r = (λ h. h.0, λ e. (e, refl))

two_by_two : (ρ : Row) (a : ℕ) (xs : List ℕ) (last : List Bool → Clause) (rs : List (List Bool)) →
    Holds ρ (map (λ r. excluding (a ∷ xs) r ++ last r) (flat_map (λ r. (false ∷ r) ∷ (true ∷ r) ∷ []) rs)) ↔ Holds ρ (map (λ r. excluding xs r ++ last (ρ a ∷ r)) rs)
two_by_two ρ a xs last [] = (λ h. tt, λ h. tt)
two_by_two ρ a xs last (r ∷ rs) =
    let rest = two_by_two ρ a xs last rs in
    let here = of_two (ρ a) (λ b. some_true_in ρ (excluding xs r ++ last (b ∷ r))) in
    (λ h. (here.0 (h.0, h.1.0), rest.0 h.1.1), λ h. let e = here.1 h.0 in (e.0, (e.1, rest.1 h.1)))

table_says : (ρ : Row) (xs : List ℕ) (last : List Bool → Clause) → Holds ρ (map (λ r. excluding xs r ++ last r) (rows (length xs))) ↔ (some_true_in ρ (last (map ρ xs)) ≡ true)
table_says ρ [] last = (λ h. h.0, λ e. (e, tt))
table_says ρ (a ∷ xs) last =
    let outer = two_by_two ρ a xs last (rows (length xs)) in
    let inner = table_says ρ xs (λ r. last (ρ a ∷ r)) in
    (λ h. inner.0 (outer.0 h), λ e. outer.1 (inner.1 e))

pub tabled_says : (ρ : Row) (f : List Bool → Bool) (l : ℕ) (xs : List ℕ) → Holds ρ (tabled f l xs) ↔ (ρ l ≡ f (map ρ xs))
tabled_says ρ f l xs =
    let table = table_says ρ xs (λ r. signed (f r) l ∷ []) in
    (λ h. is (f (map ρ xs)) (table.0 h), λ e. table.1 (made (f (map ρ xs)) e))
  where
    is : (b : Bool) → true_in ρ (signed b l) || false ≡ true → ρ l ≡ b
    is true e = bare (ρ l) e
      where
        bare : (v : Bool) → v || false ≡ true → v ≡ true
        bare true e = refl
        bare false e = e
    is false e = bare (ρ l) e
      where
        bare : (v : Bool) → not v || false ≡ true → v ≡ false
        bare true e = sym e
        bare false e = refl

    made : (b : Bool) → ρ l ≡ b → true_in ρ (signed b l) || false ≡ true
    made true e = ap (λ v. v || false) e
    made false e = ap (λ v. not v || false) e

-- ── the kinds ──
abbrev same : Bool → Bool
same b = b

all_values : (ρ : Row) (xs : List ℕ) → every ρ true xs ≡ list_all same (map ρ xs)
all_values ρ [] = refl
all_values ρ (a ∷ xs) = ap (λ b. ρ a && b) (all_values ρ xs)

none_of : (ρ : Row) (xs : List ℕ) → every ρ false xs ≡ not (list_any same (map ρ xs))
none_of ρ [] = refl
none_of ρ (a ∷ xs) = go (ρ a) (none_of ρ xs)
  where
    go : (v : Bool) → every ρ false xs ≡ not (list_any same (map ρ xs)) → not v && every ρ false xs ≡ not (v || list_any same (map ρ xs))
    go true e = refl
    go false e = e

turned : (a b : Bool) → not a ≡ b → a ≡ not b
turned true b e = ap not e
turned false b e = ap not e

turned_back : (a b : Bool) → a ≡ not b → not a ≡ b
turned_back true true e = sym e
turned_back true false e = refl
turned_back false true e = refl
turned_back false false e = sym e

both_turned : (a b : Bool) → not a ≡ not b → a ≡ b
both_turned true true e = refl
both_turned true false e = sym e
both_turned false true e = sym e
both_turned false false e = refl

pub function_says : (ρ : Row) (k : Kind) (l : ℕ) (xs : List ℕ) → takes k (length xs) ≡ true → Holds ρ (function k l xs) ↔ (ρ l ≡ gives k (map ρ xs))
function_says ρ And l xs t = let c = conjunction_says ρ true true l xs in let v = all_values ρ xs in (λ h. c.0 h ∙ v, λ e. c.1 (e ∙ sym v))
function_says ρ Nand l xs t = let c = conjunction_says ρ false true l xs in let v = all_values ρ xs in (λ h. turned _ _ (c.0 h ∙ v), λ e. c.1 (turned_back _ _ e ∙ sym v))
function_says ρ Or l xs t = let c = conjunction_says ρ false false l xs in let v = none_of ρ xs in (λ h. both_turned _ _ (c.0 h ∙ v), λ e. c.1 (ap not e ∙ sym v))
function_says ρ Nor l xs t = let c = conjunction_says ρ true false l xs in let v = none_of ρ xs in (λ h. c.0 h ∙ v, λ e. c.1 (e ∙ sym v))
function_says ρ Xor l xs t = tabled_says ρ (gives Xor) l xs
function_says ρ Xnor l xs t = tabled_says ρ (gives Xnor) l xs
function_says ρ Not l [] t = absurd (let e = eqb-true 0 1 t in omega arith)
function_says ρ Not l (a ∷ []) t = let c = conjunction_says ρ false true l (a ∷ []) in let v = one (ρ a) in (λ h. turned _ _ (c.0 h) ∙ v, λ e. c.1 (turned_back _ _ (e ∙ sym v)))
  where
    one : (b : Bool) → not (b && true) ≡ not (b || false)
    one true = refl
    one false = refl
function_says ρ Not l (a ∷ b ∷ xs) t = absurd (let e = eqb-true (length (a ∷ b ∷ xs)) 1 t in omega arith)

-- ── the selection ──
pub selection_sound : (s l w z : Bool) → s || (not l || (z || false)) ≡ true → s || (l || (not z || false)) ≡ true → not s || (not w || (z || false)) ≡ true → not s || (w || (not z || false)) ≡ true → cond s w l ≡ z
selection_sound true l true true a b c d = refl
selection_sound true l true false a b c d = sym c
selection_sound true l false true a b c d = d
selection_sound true l false false a b c d = refl
selection_sound false true w true a b c d = refl
selection_sound false true w false a b c d = sym a
selection_sound false false w true a b c d = b
selection_sound false false w false a b c d = refl

abbrev Four : Bool → Bool → Bool → Bool → Type 0
Four a b c d = (a ≡ true) × ((b ≡ true) × ((c ≡ true) × ((d ≡ true) × Unit {0})))

pub selection_complete : (s l w z : Bool) → cond s w l ≡ z → Four (s || (not l || (z || false))) (s || (l || (not z || false))) (not s || (not w || (z || false))) (not s || (w || (not z || false)))
selection_complete true l true true e = (refl, (refl, (refl, (refl, tt))))
selection_complete true l true false e = (refl, (refl, (sym e, (refl, tt))))
selection_complete true l false true e = (refl, (refl, (refl, (e, tt))))
selection_complete true l false false e = (refl, (refl, (refl, (refl, tt))))
selection_complete false true w true e = (refl, (refl, (refl, (refl, tt))))
selection_complete false true w false e = (sym e, (refl, (refl, (refl, tt))))
selection_complete false false w true e = (refl, (e, (refl, (refl, tt))))
selection_complete false false w false e = (refl, (refl, (refl, (refl, tt))))
