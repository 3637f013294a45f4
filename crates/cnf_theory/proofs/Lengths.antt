-- How long the formula's clauses are, and how many.
use Rattle.std.proofs.Common.{◌≡◌, ℕ, zero, suc, ◌+◌, ◌-◌, ◌*◌, ◌≤◌, Bool, true, false, not, leb, List, [], ◌∷◌, ◌++◌, map, length, Some, None, Option, ap, ⊎_elim, suc-mul, mul-le-mul, arith, length-append}
use Rattle.std.specs.List.{flat_map, AllByRecursion}
use Rattle.std.proofs.lemmas.List.{length-map}
use Rattle.std.proofs.lemmas.Bool.{and_parts, leb-true, eqb-true, cases_Bool, cond-true, cond-false}
use Rattle.circuit.specs.declared.kind.Kind.{Kind}
use Rattle.circuit.specs.declared.kind.Kind.TheVariants.{And, Or, Nand, Nor, Xor, Xnor, Not}
use Rattle.circuit.specs.declared.gate.Signal.{Signal}
use Rattle.circuit.specs.Kinds.{takes, gives, several}
use Rattle.circuit.specs.Circuits.{Gate, Circuit, wired, Sound}
use Rattle.circuit.specs.Tests.{Test}
use Rattle.cnf_theory.specs.Literals.{Clause, signed}
use Rattle.cnf_theory.specs.Variables.{base, computed_variable, forced_variable, value_variable}
use Rattle.cnf_theory.specs.Counter.{from, carry, step, count_at, counter, limit}
use Rattle.cnf_theory.specs.Gates.{conjunction, rows, excluding, function, selection}
use Rattle.cnf_theory.specs.Formula.{input_clauses, gates_clauses, measured_clauses, output_clauses, test_clauses, tests_clauses, formula}
use Rattle.cnf_theory.specs.FormulaLaws.{NineAtMost}
use Rattle.solver.specs.Rows.{price}
use Rattle.cnf_theory.specs.Sizes.{prices}
use Rattle.cnf_theory.proofs.TestSound.{gate_takes, takes_mapped}

abbrev pub Short : Clause → Type 0
Short c = length c ≤ 9

-- at most n clauses, none longer than nine
pub record AtMost (n : ℕ) (cs : List Clause) : Type 0 where
  pub short : AllByRecursion Short cs
  pub few : length cs ≤ n

all_both : (xs ys : List Clause) → AllByRecursion Short xs → AllByRecursion Short ys → AllByRecursion Short (xs ++ ys)
all_both [] ys a b = b
all_both (x ∷ xs) ys a b = (a.0, all_both xs ys a.1 b)

both : (m n : ℕ) (xs ys : List Clause) → AtMost m xs → AtMost n ys → AtMost (m + n) (xs ++ ys)
both m n xs ys a b = let p = a.few in let q = b.few in let e = length-append xs ys in record { short = all_both xs ys a.short b.short; few = omega arith }

more : (m n : ℕ) (xs : List Clause) → m ≤ n → AtMost m xs → AtMost n xs
more m n xs l a = let p = a.few in record { short = a.short; few = omega arith }

over_from : (f : ℕ → List Clause) (b a n : ℕ) → ((k : ℕ) → AtMost b (f k)) → AtMost (n * b) (flat_map f (from a n))
over_from f b a zero h = record { short = tt; few = omega arith }
over_from f b a (suc n) h = let e = suc-mul n b in more (b + n * b) (suc n * b) _ (omega arith) (both b (n * b) (f a) _ (h a) (over_from f b (suc a) n h))

-- ── the counter ──
carry_few : (G N g k : ℕ) → AtMost 1 (carry G N g k)
carry_few G N zero k = record { short = tt; few = omega arith }
carry_few G N (suc zero) k = record { short = tt; few = omega arith }
carry_few G N (suc (suc h)) k = record { short = (omega arith, tt); few = omega arith }

step_few : (G N g k : ℕ) → AtMost 1 (step G N g k)
step_few G N g zero = record { short = tt; few = omega arith }
step_few G N g (suc zero) = record { short = (omega arith, tt); few = omega arith }
step_few G N zero (suc (suc k)) = record { short = tt; few = omega arith }
step_few G N (suc zero) (suc (suc k)) = record { short = tt; few = omega arith }
step_few G N (suc (suc h)) (suc (suc k)) = record { short = (omega arith, tt); few = omega arith }

counter_few : (G N : ℕ) → AtMost (G * (suc N * 2)) (counter G N)
counter_few G N = over_from (count_at G N) (suc N * 2) 1 G (λ g. over_from (λ k. carry G N g k ++ step G N g k) 2 1 (suc N) (λ k. both 1 1 _ _ (carry_few G N g k) (step_few G N g k)))

limit_few : (G N k : ℕ) → AtMost 1 (limit G N k)
limit_few zero N k = record { short = tt; few = omega arith }
limit_few (suc h) N k = record { short = (omega arith, tt); few = omega arith }

-- ── a gate ──
conjunction_few : (x y : Bool) (l : ℕ) (xs : List ℕ) → length xs ≤ 8 → AtMost 9 (conjunction x y l xs)
conjunction_few x y l xs h = let e = length-map xs (signed (not y)) in more (length xs + 1) 9 _ (omega arith) (both (length xs) 1 _ _ (pairs-few xs) (record { short = (omega arith, tt); few = omega arith }))
  where
    pairs-few : (xs : List ℕ) → AtMost (length xs) (map (λ a. signed (not x) l ∷ signed y a ∷ []) xs)
    pairs-few [] = record { short = tt; few = omega arith }
    pairs-few (a ∷ xs) = let r = pairs-few xs in let q = r.few in record { short = (omega arith, r.short); few = omega arith }

excluding_short : (xs : List ℕ) (r : List Bool) → length (excluding xs r) ≤ length xs
excluding_short [] r = omega arith
excluding_short (x ∷ xs) [] = omega arith
excluding_short (x ∷ xs) (b ∷ bs) = let e = excluding_short xs bs in omega arith

tables_few : (f : List Bool → Bool) (l : ℕ) (xs : List ℕ) (rs : List (List Bool)) → length xs ≤ 8 → AtMost (length rs) (map (λ r. excluding xs r ++ signed (f r) l ∷ []) rs)
tables_few f l xs [] h = record { short = tt; few = omega arith }
tables_few f l xs (r ∷ rs) h =
    let rest = tables_few f l xs rs h in
    let q = rest.few in
    let e = length-append (excluding xs r) (signed (f r) l ∷ []) in
    let s = excluding_short xs r in
    record { short = (omega arith, rest.short); few = omega arith }

table_few : (f : List Bool → Bool) (l : ℕ) (xs : List ℕ) → length xs ≡ 2 → AtMost 9 (map (λ r. excluding xs r ++ signed (f r) l ∷ []) (rows (length xs)))
table_few f l xs two =
    let four : length (rows (length xs)) ≡ 4 = ap (λ k. length (rows k)) two in
    more (length (rows (length xs))) 9 _ (omega arith) (tables_few f l xs (rows (length xs)) (omega arith))

several_few : (n : ℕ) → several n ≡ true → n ≤ 8
several_few n t = leb-true n 8 (and_parts (leb 2 n) (leb n 8) t).1

function_few : (k : Kind) (l : ℕ) (xs : List ℕ) → takes k (length xs) ≡ true → AtMost 9 (function k l xs)
function_few And l xs t = conjunction_few true true l xs (several_few (length xs) t)
function_few Nand l xs t = conjunction_few false true l xs (several_few (length xs) t)
function_few Or l xs t = conjunction_few false false l xs (several_few (length xs) t)
function_few Nor l xs t = conjunction_few true false l xs (several_few (length xs) t)
function_few Not l xs t = let e = eqb-true (length xs) 1 t in conjunction_few false true l xs (omega arith)
function_few Xor l xs t = table_few (gives Xor) l xs (eqb-true (length xs) 2 t)
function_few Xnor l xs t = table_few (gives Xnor) l xs (eqb-true (length xs) 2 t)

selection_few : (s l w z : ℕ) → AtMost 4 (selection s l w z)
selection_few s l w z = record { short = (omega arith, (omega arith, (omega arith, (omega arith, tt)))); few = omega arith }

gates_few : (B I n m : ℕ) (gs : List Gate) → wired I m gs ≡ true → AtMost (length gs * 13) (gates_clauses B I n gs)
gates_few B I n m [] w = record { short = tt; few = omega arith }
gates_few B I n m (g ∷ gs) w =
    let fit = gate_takes I m g gs w in
    more (9 + 4 + length gs * 13) (suc (length gs) * 13) _ (omega arith)
    (both (9 + 4) (length gs * 13) _ _ (both 9 4 _ _ (function_few g.kind (computed_variable B I n) _ (takes_mapped B I g fit.0)) (selection_few n (computed_variable B I n) (forced_variable B I n) (value_variable B I n))) (gates_few B I (suc n) (suc m) gs fit.2))

-- ── a test ──
inputs_few : (B i : ℕ) (bs : List Bool) → AtMost (length bs) (input_clauses B i bs)
inputs_few B i [] = record { short = tt; few = omega arith }
inputs_few B i (b ∷ bs) = let r = inputs_few B (suc i) bs in let q = r.few in record { short = (omega arith, r.short); few = omega arith }

measured_few : (B I : ℕ) (o : Signal) (m : Option Bool) → AtMost 1 (measured_clauses B I o m)
measured_few B I o None = record { short = tt; few = omega arith }
measured_few B I o (Some b) = record { short = (omega arith, tt); few = omega arith }

outputs_few : (B I : ℕ) (os : List Signal) (ms : List (Option Bool)) → AtMost (length os) (output_clauses B I os ms)
outputs_few B I [] ms = record { short = tt; few = omega arith }
outputs_few B I (o ∷ os) [] = record { short = tt; few = omega arith }
outputs_few B I (o ∷ os) (m ∷ ms) = more (1 + length os) (suc (length os)) _ (omega arith) (both 1 (length os) _ _ (measured_few B I o m) (outputs_few B I os ms))

-- as many inputs as a test may have
abbrev pub FewInputs : Test → Type 0
FewInputs t = length t.inputs ≤ 64

test_short : (c : Circuit) (B : ℕ) (t : Test) → Sound c → AtMost (length t.inputs + length c.gates * 13 + length c.outputs) (test_clauses c B t)
test_short c B t sound = both (length t.inputs + length c.gates * 13) (length c.outputs) _ _ (both (length t.inputs) (length c.gates * 13) _ _ (inputs_few B 1 t.inputs) (gates_few B c.inputs 1 0 c.gates sound.in_order)) (outputs_few B c.inputs c.outputs t.outputs)

tests_short : (c : Circuit) (N n : ℕ) (ts : List Test) → Sound c → AllByRecursion Short (tests_clauses c N n ts)
tests_short c N n [] sound = tt
tests_short c N n (t ∷ ts) sound = all_both _ _ (test_short c (base c N n) t sound).short (tests_short c N (suc n) ts sound)

tests_few : (c : Circuit) (N n : ℕ) (ts : List Test) → Sound c → AllByRecursion FewInputs ts → length (tests_clauses c N n ts) ≤ length ts * 3456
tests_few c N n [] sound fit = omega arith
tests_few c N n (t ∷ ts) sound fit =
    let one = (test_short c (base c N n) t sound).few in
    let rest = tests_few c N (suc n) ts sound fit.1 in
    let e = length-append (test_clauses c (base c N n) t) (tests_clauses c N (suc n) ts) in
    let i = fit.0 in
    let g = sound.few_gates in
    let o = sound.few_outputs in
    let s = suc-mul (length ts) 3456 in
    omega arith

pub nine_at_most : NineAtMost
nine_at_most c ts N sound =
    let G = length c.gates in
    all_both (counter G N ++ limit G N N) _ (all_both (counter G N) _ (counter_few G N).short (limit_few G N N).short) (tests_short c N 0 ts sound)

-- a bound for every size that is admitted
pub few_clauses : (c : Circuit) (ts : List Test) (N : ℕ) → Sound c → AllByRecursion FewInputs ts → length ts ≤ 32 → N ≤ 6 → length (formula c ts N) ≤ 114177
few_clauses c ts N sound fit t n =
    let G = length c.gates in
    let g = sound.few_gates in
    let a : G * (suc N * 2) ≤ 3584 = mul-le-mul {n₂ = 256} {m₂ = 14} g (omega arith) in
    let p = (counter_few G N).few in
    let q = (limit_few G N N).few in
    let r = tests_few c N 0 ts sound fit in
    let d = length-append (counter G N) (limit G N N) in
    let e = length-append (counter G N ++ limit G N N) (tests_clauses c N 0 ts) in
    omega arith

-- ── prices ──
price_few : (n : ℕ) → n ≤ 9 → price n ≤ 7
price_few n l = ⊎_elim (λ t. let e = cond-true (leb n 3) 1 (n - 2) t in omega arith) (λ f. let e = cond-false (leb n 3) 1 (n - 2) f in omega arith) (cases_Bool (leb n 3))

pub prices_few : (cs : List Clause) → AllByRecursion Short cs → prices cs ≤ 7 * length cs
prices_few [] h = omega arith
prices_few (c ∷ cs) h = let r = prices_few cs h.1 in let p = price_few (length c) h.0 in omega arith
