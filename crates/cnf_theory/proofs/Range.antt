-- Every variable of the formula is one of 1 to its number of variables.
use Rattle.std.proofs.Common.{◌≡◌, ℕ, zero, suc, ◌+◌, ◌*◌, ◌<◌, ◌≤◌, Bool, true, false, not, leb, List, [], ◌∷◌, ◌++◌, map, length, Some, None, Option, sym, subst, mul-le-mul_right, suc-mul, mul-suc, arith}
use lib.Arith.{digits_lt}
use Rattle.std.specs.List.{flat_map, AllByRecursion}
use Rattle.std.proofs.lemmas.Bool.{and_parts, leb-true}
use Rattle.circuit.specs.declared.kind.Kind.{Kind}
use Rattle.circuit.specs.declared.kind.Kind.TheVariants.{And, Or, Nand, Nor, Xor, Xnor, Not}
use Rattle.circuit.specs.declared.gate.Signal.{Signal}
use Rattle.circuit.specs.declared.gate.Signal.TheVariants as signal
use Rattle.std.specs.List.{list_all}
use Rattle.circuit.specs.Kinds.{gives}
use Rattle.circuit.specs.Circuits.{Gate, Circuit, there, wired, Sound}
use Rattle.circuit.specs.Tests.{Test, FitsTest}
use Rattle.cnf_theory.specs.Literals.{Literal, Clause, signed, variable_of}
use Rattle.cnf_theory.specs.Variables.{count_variable, base, gate_variable, computed_variable, signal_variable, variables}
use Rattle.cnf_theory.specs.Counter.{from, carry, step, count_at, counter, limit}
use Rattle.cnf_theory.specs.Gates.{conjunction, rows, excluding, function, gate_clauses}
use Rattle.cnf_theory.specs.Formula.{input_clauses, gates_clauses, output_clauses, test_clauses, tests_clauses}
use Rattle.cnf_theory.specs.FormulaLaws.{WithinVariables}
use Rattle.cnf_theory.proofs.TestSound.{gate_takes}

-- ── any property of variables ──
module _ (P : ℕ → Type 0) where
  abbrev pub OfClause : Clause → Type 0
  OfClause c = AllByRecursion (λ (x : Literal). P (variable_of x)) c

  abbrev pub Each : List Clause → Type 0
  Each cs = AllByRecursion OfClause cs

  each_both : (xs ys : List Clause) → Each xs → Each ys → Each (xs ++ ys)
  each_both [] ys a b = b
  each_both (x ∷ xs) ys a b = (a.0, each_both xs ys a.1 b)

  each_from : (f : ℕ → List Clause) (a n : ℕ) → ((k : ℕ) → a ≤ k → k < a + n → Each (f k)) → Each (flat_map f (from a n))
  each_from f a zero h = tt
  each_from f a (suc n) h = each_both (f a) _ (h a (omega arith) (omega arith)) (each_from f (suc a) n (λ k le lt. h k (omega arith) (omega arith)))

  of_signed : (b : Bool) (v : ℕ) → P v → P (variable_of (signed b v))
  of_signed true v p = p
  of_signed false v p = p

  all_signed : (b : Bool) (xs : List ℕ) → AllByRecursion P xs → OfClause (map (signed b) xs)
  all_signed b [] a = tt
  all_signed b (x ∷ xs) a = (of_signed b x a.0, all_signed b xs a.1)

  pairs : (b d : Bool) (l : ℕ) (xs : List ℕ) → P l → AllByRecursion P xs → Each (map (λ a. signed b l ∷ signed d a ∷ []) xs)
  pairs b d l [] p a = tt
  pairs b d l (x ∷ xs) p a = ((of_signed b l p, (of_signed d x a.0, tt)), pairs b d l xs p a.1)

  conjunctions : (x y : Bool) (l : ℕ) (xs : List ℕ) → P l → AllByRecursion P xs → Each (conjunction x y l xs)
  conjunctions x y l xs p a = each_both (map (λ a. signed (not x) l ∷ signed y a ∷ []) xs) _ (pairs (not x) y l xs p a) ((of_signed x l p, all_signed (not y) xs a), tt)

  excluded : (l : ℕ) (d : Bool) (xs : List ℕ) (r : List Bool) → P l → AllByRecursion P xs → OfClause (excluding xs r ++ signed d l ∷ [])
  excluded l d [] r p a = (of_signed d l p, tt)
  excluded l d (x ∷ xs) [] p a = (of_signed d l p, tt)
  excluded l d (x ∷ xs) (b ∷ bs) p a = (of_signed (not b) x a.0, excluded l d xs bs p a.1)

  tables : (f : List Bool → Bool) (l : ℕ) (xs : List ℕ) (rs : List (List Bool)) → P l → AllByRecursion P xs → Each (map (λ r. excluding xs r ++ signed (f r) l ∷ []) rs)
  tables f l xs [] p a = tt
  tables f l xs (r ∷ rs) p a = (excluded l (f r) xs r p a, tables f l xs rs p a)

  functions : (k : Kind) (l : ℕ) (xs : List ℕ) → P l → AllByRecursion P xs → Each (function k l xs)
  functions And l xs p a = conjunctions true true l xs p a
  functions Nand l xs p a = conjunctions false true l xs p a
  functions Or l xs p a = conjunctions false false l xs p a
  functions Nor l xs p a = conjunctions true false l xs p a
  functions Not l xs p a = conjunctions false true l xs p a
  functions Xor l xs p a = tables (gives Xor) l xs (rows (length xs)) p a
  functions Xnor l xs p a = tables (gives Xnor) l xs (rows (length xs)) p a

  -- one test, of whose variables P holds
  module _ (B I G : ℕ) (marks : (g : ℕ) → 1 ≤ g → g ≤ G → P g) (inputs : (i : ℕ) → 1 ≤ i → i ≤ I → P (B + i)) (gates : (h j : ℕ) → h < G → 1 ≤ j → j ≤ 3 → P (gate_variable B I (suc h) j)) where
    signal-in : (m : ℕ) → m ≤ G → (x : Signal) → there I m x ≡ true → P (signal_variable B I x)
    signal-in m le (signal.Input i) t = let p = and_parts (leb 1 i) (leb i I) t in inputs i (leb-true 1 i p.0) (leb-true i I p.1)
    signal-in m le (signal.Gate zero) t = absurd (let e = leb-true 1 0 (and_parts (leb 1 0) (leb 0 m) t).0 in omega arith)
    signal-in m le (signal.Gate (suc g)) t = let e = leb-true (suc g) m (and_parts (leb 1 (suc g)) (leb (suc g) m) t).1 in gates g 3 (omega arith) (omega arith) (omega arith)

    signals-in : (m : ℕ) → m ≤ G → (xs : List Signal) → list_all (there I m) xs ≡ true → AllByRecursion P (map (signal_variable B I) xs)
    signals-in m le [] t = tt
    signals-in m le (x ∷ xs) t = let p = and_parts (there I m x) (list_all (there I m) xs) t in (signal-in m le x p.0, signals-in m le xs p.1)

    inputs_in : (n : ℕ) (bs : List Bool) → 1 ≤ n → n + length bs ≤ suc I → Each (input_clauses B n bs)
    inputs_in n [] a b = tt
    inputs_in n (x ∷ bs) a b = ((of_signed x (B + n) (inputs n a (omega arith)), tt), inputs_in (suc n) bs (omega arith) (omega arith))

    gates-in : (gs : List Gate) (m : ℕ) → m + length gs ≤ G → wired I m gs ≡ true → Each (gates_clauses B I (suc m) gs)
    gates-in [] m le f = tt
    gates-in (g ∷ gs) m le f =
        let s = marks (suc m) (omega arith) (omega arith) in
        let l = gates m 1 (omega arith) (omega arith) (omega arith) in
        let w = gates m 2 (omega arith) (omega arith) (omega arith) in
        let z = gates m 3 (omega arith) (omega arith) (omega arith) in
        let xs = map (signal_variable B I) g.operands in
        let fit = gate_takes I m g gs f in
        each_both (gate_clauses B I (suc m) g) _
        (each_both (function g.kind (computed_variable B I (suc m)) xs) _ (functions g.kind (computed_variable B I (suc m)) xs l (signals-in m (omega arith) g.operands fit.1))
        ((s, (l, (z, tt))), ((s, (l, (z, tt))), ((s, (w, (z, tt))), ((s, (w, (z, tt))), tt)))))
        (gates-in gs (suc m) (omega arith) fit.2)

    outputs-in : (os : List Signal) (ms : List (Option Bool)) → list_all (there I G) os ≡ true → Each (output_clauses B I os ms)
    outputs-in [] ms t = tt
    outputs-in (o ∷ os) [] t = tt
    outputs-in (o ∷ os) (None ∷ ms) t = outputs-in os ms (and_parts (there I G o) (list_all (there I G) os) t).1
    outputs-in (o ∷ os) (Some b ∷ ms) t = let p = and_parts (there I G o) (list_all (there I G) os) t in ((of_signed b (signal_variable B I o) (signal-in G (omega arith) o p.0), tt), outputs-in os ms p.1)

abbrev pub UpTo : ℕ → ℕ → Type 0
UpTo V v = (1 ≤ v) × (v ≤ V)

-- ── the counter ──
module _ (G N V : ℕ) (room : G * suc (suc N) ≤ V) where
  mark_in : (g : ℕ) → 1 ≤ g → g ≤ G → UpTo V g
  mark_in g a b = (a, let e = mul-suc G (suc N) in omega arith)

  count_in : (g k : ℕ) → 1 ≤ g → g ≤ G → 1 ≤ k → k ≤ suc N → UpTo V (count_variable G N g k)
  count_in zero k a b c d = absurd (omega arith)
  count_in (suc h) zero a b c d = absurd (omega arith)
  count_in (suc h) (suc k) a b c d = (omega arith, let e = mul-suc G (suc N) in let lt : h * suc N + k < G * suc N = digits_lt b d in omega arith)

  carries_in : (g k : ℕ) → 1 ≤ g → g ≤ G → 1 ≤ k → k ≤ suc N → Each (UpTo V) (carry G N g k)
  carries_in zero k a b c d = tt
  carries_in (suc zero) k a b c d = tt
  carries_in (suc (suc h)) k a b c d = ((count_in (suc h) k (omega arith) (omega arith) c d, (count_in (suc (suc h)) k a b c d, tt)), tt)

  steps_in : (g k : ℕ) → 1 ≤ g → g ≤ G → 1 ≤ k → k ≤ suc N → Each (UpTo V) (step G N g k)
  steps_in g zero a b c d = tt
  steps_in g (suc zero) a b c d = ((mark_in g a b, (count_in g 1 a b c d, tt)), tt)
  steps_in zero (suc (suc k)) a b c d = tt
  steps_in (suc zero) (suc (suc k)) a b c d = tt
  steps_in (suc (suc h)) (suc (suc k)) a b c d = ((mark_in (suc (suc h)) a b, (count_in (suc h) (suc k) (omega arith) (omega arith) (omega arith) (omega arith), (count_in (suc (suc h)) (suc (suc k)) a b c d, tt))), tt)

  counter_in : Each (UpTo V) (counter G N)
  counter_in = each_from (UpTo V) (count_at G N) 1 G (λ g a b. each_from (UpTo V) (λ k. carry G N g k ++ step G N g k) 1 (suc N) (λ k c d. each_both (UpTo V) (carry G N g k) _ (carries_in g k a (omega arith) c (omega arith)) (steps_in g k a (omega arith) c (omega arith))))

limit_in : (G N V : ℕ) → G * suc (suc N) ≤ V → Each (UpTo V) (limit G N N)
limit_in zero N V room = tt
limit_in (suc h) N V room = ((count_in (suc h) N V room (suc h) (suc N) (omega arith) (omega arith) (omega arith) (omega arith), tt), tt)

-- ── the tests ──
tests_in : (c : Circuit) (N V : ℕ) → Sound c → (n : ℕ) (ts : List Test) → AllByRecursion (FitsTest c) ts → base c N (n + length ts) ≤ V → Each (UpTo V) (tests_clauses c N n ts)
tests_in c N V sound n [] fit le = tt
tests_in c N V sound n (t ∷ ts) fit le =
    let I = c.inputs in
    let G = length c.gates in
    let B = base c N n in
    let M = I + G * 3 in
    let len = fit.0.inputs in
    let next : base c N n + M ≤ V = (let e = suc-mul n M in let more : suc n * M ≤ (n + suc (length ts)) * M = mul-le-mul_right M (omega arith) in omega arith) in
    let marks : (g : ℕ) → 1 ≤ g → g ≤ G → UpTo V g = λ g a b. mark_in G N V (omega arith) g a b in
    let inputs : (i : ℕ) → 1 ≤ i → i ≤ I → UpTo V (B + i) = λ i a b. (omega arith, omega arith) in
    let gates : (h j : ℕ) → h < G → 1 ≤ j → j ≤ 3 → UpTo V (gate_variable B I (suc h) j) = λ h j a b d. (omega arith, omega arith) in
    each_both (UpTo V) (test_clauses c B t) _
    (each_both (UpTo V) (input_clauses B 1 t.inputs ++ gates_clauses B I 1 c.gates) _
    (each_both (UpTo V) (input_clauses B 1 t.inputs) _ (inputs_in (UpTo V) B I G marks inputs gates 1 t.inputs (omega arith) (omega arith)) (gates-in (UpTo V) B I G marks inputs gates c.gates 0 (omega arith) sound.in_order))
    (outputs-in (UpTo V) B I G marks inputs gates c.outputs t.outputs sound.shown))
    (tests_in c N V sound (suc n) ts fit.1 (subst (λ (k : ℕ). base c N k ≤ V) (let e : n + suc (length ts) ≡ suc n + length ts = omega arith in e) le))

pub within_variables : WithinVariables
within_variables c ts N sound fit =
    let G = length c.gates in
    let V = variables c ts N in
    let room : G * suc (suc N) ≤ V = omega arith in
    each_both (UpTo V) (counter G N ++ limit G N N) _
    (each_both (UpTo V) (counter G N) _ (counter_in G N V room) (limit_in G N V room))
    (tests_in c N V sound 0 ts fit (let e : base c N (0 + length ts) ≤ V = (let q : 0 + length ts ≡ length ts = omega arith in subst (λ (k : ℕ). base c N k ≤ V) (sym q) (omega arith)) in e))
