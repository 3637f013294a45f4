-- Lists that the walk goes through, one element more at a time.
use Rattle.std.proofs.Common.{◌≡◌, ℕ, zero, suc, ◌+◌, ◌*◌, ◌<◌, ◌≤◌, Bool, true, false, not, leb, List, [], ◌∷◌, ◌++◌, map, length, get_or, take, sym, refl, ap, ◌∙◌, append_assoc, append-nil, le_of_suc-le-suc, not-suc-le-zero, add-zero, arith, length-append}
use mathlib.Core.List.{map-append}
use Rattle.std.specs.List.{AllByRecursion}
use Rattle.std.proofs.lemmas.List.{take_more, length-take-le, length-map}
use Rattle.std.proofs.lemmas.Bool.{and_parts, leb-true, eqb-true}
use Rattle.circuit.specs.declared.kind.Kind.{Kind}
use Rattle.circuit.specs.declared.kind.Kind.TheVariants.{And, Or, Nand, Nor, Xor, Xnor, Not}
use Rattle.circuit.specs.declared.gate.Signal.{Signal}
use Rattle.circuit.specs.declared.gate.Signal.TheVariants as signal
use Rattle.circuit.specs.declared.gate.Gate.{Gate as HeldGate}
use Rattle.circuit.specs.Kinds.{takes}
use Rattle.std.specs.List.{list_all}
use Rattle.inline_list.specs.Listed.{listed}
use Rattle.circuit.specs.Circuits.{Gate, there, fits, wired, gate_of}
use Rattle.cnf_theory.specs.Literals.{Clause, integer, integers, signed, positive, negative}
use Rattle.cnf_theory.specs.Variables.{signal_variable, computed_variable}
use Rattle.cnf_theory.specs.Gates.{conjunction, function, gate_clauses}
use Rattle.cnf_theory.specs.Formula.{gates_clauses}
use Rattle.cnf.specs.Code.{Near, Fair}
use Rattle.std.proofs.lemmas.List.Sums.{sum_by-cons}
use Rattle.cnf.specs.Counted.{function_size, gate_size, gates_size}
use Rattle.inline_list.proofs.Few.{listed_few}

pub all_at : {X : Type 0} (P : X → Type 0) (xs : List X) (i : ℕ) (d : X) → i < length xs → AllByRecursion P xs → P (get_or xs i d)
all_at P [] i d l h = absurd (not-suc-le-zero l)
all_at P (x ∷ xs) zero d l h = h.0
all_at P (x ∷ xs) (suc i) d l h = all_at P xs i d (le_of_suc-le-suc l) h.1

pub map_more : {X Y : Type 0} (f : X → Y) (xs : List X) (i : ℕ) (d : X) → i < length xs → map f (take (i + 1) xs) ≡ map f (take i xs) ++ f (get_or xs i d) ∷ []
map_more f xs i d l = ap (map f) (take_more xs i d l) ∙ map-append f (take i xs) (get_or xs i d ∷ [])

-- ── what a circuit holds is near and fair ──
near_from : (I m : ℕ) (s : Signal) → I ≤ 64 → m ≤ 256 → there I m s ≡ true → Near s
near_from I m (signal.Input i) a b t = let p = and_parts (leb 1 i) (leb i I) t in let q = leb-true i I p.1 in (leb-true 1 i p.0, omega arith)
near_from I m (signal.Gate g) a b t = let p = and_parts (leb 1 g) (leb g m) t in let q = leb-true g m p.1 in (leb-true 1 g p.0, omega arith)

pub all_near : (I m : ℕ) (ss : List Signal) → I ≤ 64 → m ≤ 256 → list_all (there I m) ss ≡ true → AllByRecursion Near ss
all_near I m [] a b t = tt
all_near I m (s ∷ ss) a b t = let p = and_parts (there I m s) (list_all (there I m) ss) t in (near_from I m s a b p.0, all_near I m ss a b p.1)

pub all_fair : (I m : ℕ) (gs : List HeldGate) → I ≤ 64 → m + length gs ≤ 256 → wired I m (map gate_of gs) ≡ true → AllByRecursion Fair gs
all_fair I m [] a b w = tt
all_fair I m (g ∷ gs) a b w =
    let p = and_parts (fits I m (gate_of g)) (wired I (suc m) (map gate_of gs)) w in
    let q = and_parts (takes g.kind (length (listed g.operands))) (list_all (there I m) (listed g.operands)) p.0 in
    ((all_near I m (listed g.operands) a (omega arith) q.1, q.0), all_fair I (suc m) gs a (omega arith) p.1)

-- ── the functions of two operands ──
two_of : (xs : List ℕ) → length xs ≡ 2 → xs ≡ get_or xs 0 0 ∷ get_or xs 1 0 ∷ []
two_of [] e = absurd (omega arith)
two_of (x ∷ []) e = absurd (omega arith)
two_of (x ∷ y ∷ []) e = refl
two_of (x ∷ y ∷ z ∷ xs) e = absurd (omega arith)

-- the table of a parity: of XOR, or of XNOR
abbrev pub parity : Bool → ℕ → ℕ → ℕ → List Clause
parity odd l a b = (positive a ∷ positive b ∷ signed (not odd) l ∷ []) ∷ (negative a ∷ positive b ∷ signed odd l ∷ []) ∷ (positive a ∷ negative b ∷ signed odd l ∷ []) ∷ (negative a ∷ negative b ∷ signed (not odd) l ∷ []) ∷ []

xor_is : (k : Kind) (l : ℕ) (xs : List ℕ) → k ≡ Xor → takes k (length xs) ≡ true → (length xs ≡ 2) × (parity true l (get_or xs 0 0) (get_or xs 1 0) ≡ function k l xs)
xor_is k l xs e t = let two : length xs ≡ 2 = eqb-true (length xs) 2 (ap (λ (j : Kind). takes j (length xs)) (sym e) ∙ t) in (two, ap (λ ys. function Xor l ys) (sym (two_of xs two)) ∙ ap (λ (j : Kind). function j l xs) (sym e))

xnor_is : (k : Kind) (l : ℕ) (xs : List ℕ) → k ≡ Xnor → takes k (length xs) ≡ true → (length xs ≡ 2) × (parity false l (get_or xs 0 0) (get_or xs 1 0) ≡ function k l xs)
xnor_is k l xs e t = let two : length xs ≡ 2 = eqb-true (length xs) 2 (ap (λ (j : Kind). takes j (length xs)) (sym e) ∙ t) in (two, ap (λ ys. function Xnor l ys) (sym (two_of xs two)) ∙ ap (λ (j : Kind). function j l xs) (sym e))

-- ── a gate's clauses ──
gates_push : (B I n : ℕ) (gs : List Gate) (g : Gate) → gates_clauses B I n (gs ++ g ∷ []) ≡ gates_clauses B I n gs ++ gate_clauses B I (n + length gs) g
gates_push B I n [] g = append-nil (gate_clauses B I n g) ∙ ap (λ m. gate_clauses B I m g) (sym (add-zero n))
gates_push B I n (x ∷ gs) g =
    ap (λ r. gate_clauses B I n x ++ r) (gates_push B I (suc n) gs g ∙ ap (λ m. gates_clauses B I (suc n) gs ++ gate_clauses B I m g) (let e : suc n + length gs ≡ n + suc (length gs) = omega arith in e))
    ∙ sym (append_assoc (gate_clauses B I n x) _ _)

pub gates_more : (B I : ℕ) (gs : List HeldGate) (i : ℕ) (d : HeldGate) → i < length gs → gates_clauses B I 1 (map gate_of (take (i + 1) gs)) ≡ gates_clauses B I 1 (map gate_of (take i gs)) ++ gate_clauses B I (suc i) (gate_of (get_or gs i d))
gates_more B I gs i d lt =
    let n : 1 + length (map gate_of (take i gs)) ≡ suc i = ap (λ k. 1 + k) (length-map (take i gs) gate_of ∙ length-take-le i gs (omega arith)) ∙ (let q : 1 + i ≡ suc i = omega arith in q) in
    ap (gates_clauses B I 1) (map_more gate_of gs i d lt) ∙ gates_push B I 1 (map gate_of (take i gs)) (gate_of (get_or gs i d)) ∙ ap (λ m. gates_clauses B I 1 (map gate_of (take i gs)) ++ gate_clauses B I m (gate_of (get_or gs i d))) n

-- ── how many clauses ──
conjunction_length : (x y : Bool) (l : ℕ) (xs : List ℕ) → length (conjunction x y l xs) ≡ length xs + 1
conjunction_length x y l xs = length-append (map (λ a. signed (not x) l ∷ signed y a ∷ []) xs) _ ∙ ap (λ n. n + 1) (length-map xs (λ a. signed (not x) l ∷ signed y a ∷ []))

function_length : (k : Kind) (l : ℕ) (xs : List ℕ) → takes k (length xs) ≡ true → length (function k l xs) ≡ function_size k (length xs)
function_length And l xs t = conjunction_length true true l xs
function_length Nand l xs t = conjunction_length false true l xs
function_length Or l xs t = conjunction_length false false l xs
function_length Nor l xs t = conjunction_length true false l xs
function_length Not l xs t = conjunction_length false true l xs
function_length Xor l xs t = ap length (sym (xor_is Xor l xs refl t).1)
function_length Xnor l xs t = ap length (sym (xnor_is Xnor l xs refl t).1)

gate_length : (B I n : ℕ) (g : HeldGate) → takes g.kind (length (listed g.operands)) ≡ true → length (gate_clauses B I n (gate_of g)) ≡ gate_size (gate_of g)
gate_length B I n g t =
    let xs = map (signal_variable B I) (listed g.operands) in
    let e = length-map (listed g.operands) (signal_variable B I) in
    length-append (function g.kind (computed_variable B I n) xs) _ ∙ ap (λ k. k + 4) (function_length g.kind _ xs (ap (takes g.kind) e ∙ t) ∙ ap (function_size g.kind) e)

pub gates_length : (B I n : ℕ) (gs : List HeldGate) → AllByRecursion Fair gs → length (gates_clauses B I n (map gate_of gs)) ≡ gates_size (map gate_of gs)
gates_length B I n [] f = refl
gates_length B I n (g ∷ gs) f =
    length-append (gate_clauses B I n (gate_of g)) _ ∙ (λ j. gate_length B I n g f.0.1 j + gates_length B I (suc n) gs f.1 j)
    ∙ sym (sum_by-cons (λ m. m) (gate_size (gate_of g)) (map gate_size (map gate_of gs)))

function_few : (k : Kind) (n : ℕ) → n ≤ 8 → function_size k n ≤ 9
function_few And n l = omega arith
function_few Nand n l = omega arith
function_few Or n l = omega arith
function_few Nor n l = omega arith
function_few Not n l = omega arith
function_few Xor n l = omega arith
function_few Xnor n l = omega arith

pub gates_few : (gs : List HeldGate) → gates_size (map gate_of gs) ≤ 13 * length gs
gates_few [] = omega arith
gates_few (g ∷ gs) =
    let e = sum_by-cons (λ m. m) (gate_size (gate_of g)) (map gate_size (map gate_of gs)) in
    let r = gates_few gs in
    let f = function_few g.kind (length (listed g.operands)) (listed_few g.operands) in
    omega arith

-- clauses as they are handed over are as many
pub integers_length : (cs : List Clause) → length (integers cs) ≡ length cs
integers_length cs = length-map cs (map integer)
