-- Rows and the numbers below 2 ^ vars.
use Rattle.std.proofs.Common.{◌≡◌, ℕ, zero, suc, ◌+◌, ◌-◌, ◌*◌, ◌/◌, ◌%◌, ◌^◌, ◌<◌, Bool, true, false, cond, not, ◌&&◌, ◌||◌, eqb, ltb, List, [], ◌∷◌, ◌++◌, length, get_or, ℤ, pos, negsuc, is_some, Some, None, Option, sym, refl, ap, ◌∙◌, le_of_suc-le-suc, not-suc-le-zero, pow-suc, arith, shr-shr}
use Rattle.std.specs.Option.{option_map, MatchOption}
use Rattle.std.specs.List.{list_all, AllWithin, HoldsAt, range_with_len}
use Rattle.std.proofs.Math.Bool.{and-true}
use Rattle.std.proofs.lemmas.List.Folds.{list_all-append}
use Rattle.std.proofs.lemmas.List.FromFn.{length-range_with_len, get_or-range_with_len}
use Rattle.std.proofs.lemmas.Bool.{and_parts, and_from, ltb-true, true≢false}
use Rattle.solver.specs.Rows.{Row, Agree, holds, all_named, all_true, some_true}
use Rattle.solver.specs.Meaning.{Meaning, Answered}
use Rattle.solver.proofs.Rows.{all_true_agree}
use Rattle.row_walker.specs.declared.clause.Clause.{Clause}
use Rattle.row_walker.specs.Masks.{odd, row_of, inverse, meets, clause_true, within, Means, Found}
use Rattle.row_walker.proofs.Bits.{BitsOf, meets_agree}

-- each literal is true in a row if none is in its inverse
pub all_true_inverse : (row : Row) (xs : List ℤ) → all_true row xs ≡ not (some_true (inverse row) xs)
all_true_inverse row [] = refl
all_true_inverse row (x ∷ xs) = ap (λ b. holds row x && b) (all_true_inverse row xs) ∙ turned row x (some_true (inverse row) xs)
  where
    apart : (a b : Bool) → (a && not b) ≡ not (not a || b)
    apart true b = refl
    apart false b = refl

    twice : (a b : Bool) → (not a && not b) ≡ not (not (not a) || b)
    twice true b = refl
    twice false b = refl

    turned : (row : Row) (x : ℤ) (b : Bool) → (holds row x && not b) ≡ not (holds (inverse row) x || b)
    turned row (pos n) b = apart (row n) b
    turned row (negsuc n) b = twice (row (suc n)) b

-- the number's bits are the row's values
pub row_of_bits : (n : ℕ) → BitsOf 0 n (row_of n)
row_of_bits n j = let e : suc (0 + j) - 1 ≡ j = omega arith in ap (λ i. odd (n / 2 ^ i)) e

abbrev bit : Bool → ℕ
bit b = cond b 1 0

bit_below : (b : Bool) → bit b < 2
bit_below true = omega arith
bit_below false = omega arith

bit_read : (b : Bool) → eqb (bit b) 1 ≡ b
bit_read true = refl
bit_read false = refl

-- the values of the k variables after v, as bits
abbrev number : Row → ℕ → ℕ → ℕ
number row v zero = 0
number row v (suc k) = bit (row (suc v)) + 2 * number row (suc v) k

number_below : (row : Row) (v k : ℕ) → number row v k < 2 ^ k
number_below row v zero = omega arith
number_below row v (suc k) =
    let b = bit_below (row (suc v)) in
    let h = number_below row (suc v) k in
    let e : 2 ^ (suc k) ≡ 2 ^ k * 2 = pow-suc _ _ in
    omega arith

halved : (b m i : ℕ) → b < 2 → (b + 2 * m) / 2 ^ (suc i) ≡ m / 2 ^ i
halved b m i h =
    let e : 2 ^ (suc i) ≡ 2 ^ (1 + i) = ap (λ n. 2 ^ n) (omega arith) in
    let half : (b + 2 * m) / 2 ≡ m = omega arith in
    ap (λ n. (b + 2 * m) / n) e ∙ sym (shr-shr (b + 2 * m) 1 i) ∙ ap (λ n. n / 2 ^ i) half

number_bit : (row : Row) (v k j : ℕ) → j < k → odd (number row v k / 2 ^ j) ≡ row (suc (v + j))
number_bit row v zero j l = absurd (not-suc-le-zero l)
number_bit row v (suc k) zero l =
    let b = bit (row (suc v)) in
    let m = number row (suc v) k in
    let h = bit_below (row (suc v)) in
    let e : (b + 2 * m) / 2 ^ 0 % 2 ≡ b = omega arith in
    ap (λ n. eqb n 1) e ∙ bit_read (row (suc v)) ∙ ap row (omega arith)
number_bit row v (suc k) (suc j) l =
    ap odd (halved (bit (row (suc v))) (number row (suc v) k) j (bit_below (row (suc v)))) ∙ number_bit row (suc v) k j (le_of_suc-le-suc l) ∙ ap row (omega arith)

-- every row agrees with that of a number below 2 ^ vars
pub numbered : (row : Row) (vars : ℕ) → (n : ℕ) × (n < 2 ^ vars) × Agree vars row (row_of n)
numbered row vars = (
  number row 0 vars,
  number_below row 0 vars,
  λ v low high.
      let e : suc (0 + (v - 1)) ≡ v = omega (arith, low) in
      sym (number_bit row 0 vars (v - 1) (omega (arith, low, high)) ∙ ap row e),
)

clause_agree : (vars : ℕ) (a b : Row) → Agree vars a b → (c : Clause) → within vars c ≡ true → clause_true a c ≡ clause_true b c
clause_agree vars a b g c inside =
    let r = and_parts (ltb c.positive (2 ^ vars)) (ltb c.negative (2 ^ vars)) inside in
    let same : (j : ℕ) → j < vars → a (suc (0 + j)) ≡ b (suc (0 + j)) = λ j l. g (suc (0 + j)) (omega arith) (omega (arith, l)) in
    ap (λ t. t || meets 0 32 c.negative (inverse a)) (meets_agree 0 32 vars c.positive a b (ltb-true _ _ r.0) same)
    ∙ ap (λ t. meets 0 32 c.positive b || t) (meets_agree 0 32 vars c.negative (inverse a) (inverse b) (ltb-true _ _ r.1) (λ j l. ap not (same j l)))

pub clauses_agree : (vars : ℕ) (a b : Row) → Agree vars a b → (cs : List Clause) → list_all (within vars) cs ≡ true → list_all (clause_true a) cs ≡ list_all (clause_true b) cs
clauses_agree vars a b g [] h = refl
clauses_agree vars a b g (c ∷ cs) h = let r = and_parts (within vars c) _ h in rw (clause_agree vars a b g c r.0, clauses_agree vars a b g cs r.1) refl

-- what was found answers the question
pub found_answers : (m : Meaning) (vars : ℕ) (cs : List Clause) (a : List ℤ) → ((row : Row) → m.allowed row → list_all (clause_true row) cs ≡ true) → ((row : Row) → list_all (clause_true row) cs ≡ true → m.allowed row) → list_all (within vars) cs ≡ true → all_named vars a ≡ true → (o : Option ℕ) → Found vars cs a o → Answered m a (is_some o) (option_map row_of o)
found_answers m vars cs a to from inside known None f = λ row p t.
    let n = numbered row vars in
    f n.0 n.1 (sym (clauses_agree vars _ _ n.2 cs inside) ∙ to row p) (sym (all_true_agree vars _ _ n.2 a known) ∙ t)
found_answers m vars cs a to from inside known (Some n) f = (from (row_of n) f.0, f.1)

-- the masks of the assumed literals, tested in a row, tell whether each of these is true there
pub wanted_tested : (vars n : ℕ) (a : List ℤ) (c : Clause) → Means vars a c → not (clause_true (inverse (row_of n)) c) ≡ all_true (row_of n) a
wanted_tested vars n a c m = ap not (m.says (inverse (row_of n))) ∙ sym (all_true_inverse (row_of n) a)

-- the tests of the walk on the row of a number
abbrev pub passes : List Clause → Clause → ℕ → Bool
passes cs w n = not (clause_true (inverse (row_of n)) w) && list_all (clause_true (row_of n)) cs

-- the first number that passes is that of a row sought; if none passes, no such row is
pub found_first : (vars : ℕ) (cs : List Clause) (a : List ℤ) (w : Clause) → Means vars a w → (o : Option ℕ) → (let ns = range_with_len 0 (2 ^ vars) in MatchOption o (AllWithin (λ n. passes cs w n ≡ false) ns 0 (length ns)) (λ n. (passes cs w n ≡ true) × (i : ℕ) × (i < length ns) × HoldsAt (λ m. m ≡ n) ns i × AllWithin (λ n. passes cs w n ≡ false) ns 0 i)) → Found vars cs a o
found_first vars cs a w m None f = λ n l h t.
    let there = f n 0 (omega arith) (rw (length-range_with_len 0 (2 ^ vars)) l) in
    let e : get_or (range_with_len 0 (2 ^ vars)) n 0 ≡ n = get_or-range_with_len 0 (2 ^ vars) n 0 l ∙ omega arith in
    true≢false (sym (and_from _ _ (wanted_tested vars n a w m ∙ t) h) ∙ ap (passes cs w) (sym e) ∙ there)
found_first vars cs a w m (Some n) f = let r = and_parts _ _ f.0 in (r.1, sym (wanted_tested vars n a w m) ∙ r.0)

-- one clause more, behind those in use
pub all_pushed : {X : Type 0} (p : X → Bool) (xs ys : List X) (x : X) → ys ≡ xs ++ x ∷ [] → list_all p ys ≡ (list_all p xs && p x)
all_pushed p xs ys x e = ap (list_all p) e ∙ list_all-append p xs (x ∷ []) ∙ ap (λ b. list_all p xs && b) (and-true (p x))
