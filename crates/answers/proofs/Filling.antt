-- From clauses that were handed over to a solver that holds them.
use Rattle.std.proofs.Common.{◌≡◌, ℕ, zero, suc, ◌+◌, ◌≤◌, max, true, ◌||◌, List, [], ◌∷◌, ◌++◌, map, length, ℤ, sym, refl, ap, ◌∙◌, subst, arith}
use Rattle.std.specs.List.{AllByRecursion}
use Rattle.std.proofs.lemmas.List.{length-map}
use Rattle.std.proofs.lemmas.Bool.{and_from, and_parts, lt-ltb, le-leb}
use Rattle.std.specs.List.{list_all}
use Rattle.solver.specs.Rows.{Row, holds, some_true, named, all_named, price}
use Rattle.solver.specs.Meaning.{Meaning, Sizes, Begun, Kept}
use Rattle.cnf_theory.specs.Literals.{Literal, positive, negative, Clause, true_in, some_true_in, Holds, variable_of, integer, integers}
use Rattle.cnf_theory.specs.Sizes.{prices, longest}
use Rattle.answers.specs.Fed.{every_true, fitting, Narrowed, Fed}
use Rattle.answers.specs.FedLaws.{fed_both}
use Rattle.answers.specs.Loaded.{Filled, Loaded, Fewest}

-- each literal's variable is in 1 to V
abbrev pub Within : ℕ → List Clause → Type 0
Within V cs = AllByRecursion (AllByRecursion (λ (x : Literal). (1 ≤ variable_of x) × (variable_of x ≤ V))) cs

-- ── sizes, by the clauses and by what is handed over ──
pub prices_handed : (cs : List Clause) → prices (integers cs) ≡ prices cs
prices_handed [] = refl
prices_handed (c ∷ cs) = λ j. price (length-map c integer j) + prices_handed cs j

pub longest_handed : (cs : List Clause) → longest (integers cs) ≡ longest cs
longest_handed [] = refl
longest_handed (c ∷ cs) = λ j. max (length-map c integer j) (longest_handed cs j)

pub integers_append : (a b : List Clause) → integers (a ++ b) ≡ integers a ++ integers b
integers_append [] b = refl
integers_append (x ∷ a) b = ap (λ r. map integer x ∷ r) (integers_append a b)

-- ── rows, by the clauses and by what is handed over ──
module _ (V : ℕ) (row : Row) where
  literal_same : (x : Literal) → (1 ≤ variable_of x) × (variable_of x ≤ V) → holds row (integer x) ≡ true_in row x
  literal_same (positive v) u = refl
  literal_same (negative zero) u = absurd (omega (arith, u.0))
  literal_same (negative (suc v)) u = refl

  clause_same : (c : Clause) → AllByRecursion (λ (x : Literal). (1 ≤ variable_of x) × (variable_of x ≤ V)) c → some_true row (map integer c) ≡ some_true_in row c
  clause_same [] u = refl
  clause_same (x ∷ c) u = λ j. literal_same x u.0 j || clause_same c u.1 j

  pub holds_handed : (cs : List Clause) → Within V cs → every_true row (integers cs) ≡ true → Holds row cs
  holds_handed [] u h = tt
  holds_handed (c ∷ cs) u h = let q = and_parts _ _ h in (sym (clause_same c u.0) ∙ q.0, holds_handed cs u.1 q.1)

  pub handed_holds : (cs : List Clause) → Within V cs → Holds row cs → every_true row (integers cs) ≡ true
  handed_holds [] u h = refl
  handed_holds (c ∷ cs) u h = and_from _ _ (clause_same c u.0 ∙ h.0) (handed_holds cs u.1 h.1)

-- ── clauses that a solver of the width takes ──
literal_named : (V : ℕ) (x : Literal) → (1 ≤ variable_of x) × (variable_of x ≤ V) → named V (integer x) ≡ true
literal_named V (positive v) u = and_from _ _ (lt-ltb 0 v u.0) (le-leb v V u.1)
literal_named V (negative zero) u = absurd (omega (arith, u.0))
literal_named V (negative (suc v)) u = and_from _ _ (lt-ltb 0 (suc v) u.0) (le-leb (suc v) V u.1)

clause_named : (V : ℕ) (c : Clause) → AllByRecursion (λ (x : Literal). (1 ≤ variable_of x) × (variable_of x ≤ V)) c → all_named V (map integer c) ≡ true
clause_named V [] u = refl
clause_named V (x ∷ c) u = and_from _ _ (literal_named V x u.0) (clause_named V c u.1)

all_fitting : (W V : ℕ) (cs : List Clause) → Within V cs → longest cs ≤ W → list_all (fitting W V) (integers cs) ≡ true
all_fitting W V [] u l = refl
all_fitting W V (c ∷ cs) u l =
    let e = length-map c integer in
    and_from _ _ (and_from _ _ (le-leb (length (map integer c)) W (omega arith)) (clause_named V c u.0)) (all_fitting W V cs u.1 (omega arith))

-- ── a solver that was begun and then fed ──
pub filled : (b n k : Meaning) (V : ℕ) (cs : List Clause) → Begun b V n → Within V cs → longest cs ≤ b.sizes.width → prices cs ≤ b.sizes.full → Fed n (integers cs) k → Filled b.sizes V (integers cs) k
filled b n k V cs g u wide cost f =
    let fit : (s : Sizes) (v : ℕ) → s ≡ b.sizes → v ≡ V → list_all (fitting s.width v) (integers cs) ≡ true = λ s v es ev. rw (es, ev) (all_fitting b.sizes.width V cs u wide) in
    let r = g.room in
    let p = prices_handed cs in
    let w : Narrowed n (integers cs) k = f.narrowed (record { each = fit n.sizes n.vars g.sizes g.vars; room = omega arith }) in
    record { sizes = w.sizes ∙ g.sizes; vars = w.vars ∙ g.vars; only = λ row a. (w.only row a).1; each = λ row t. w.each row (g.every row) t; room = w.room ∙ r }

pub loaded : (z : Sizes) (V : ℕ) (cs : List Clause) (m : Meaning) → Within V cs → Filled z V (integers cs) m → Loaded z V cs m
loaded z V cs m u f = record { sizes = f.sizes; vars = f.vars; only = λ row a. holds_handed V row cs u (f.only row a); each = λ row h. f.each row (handed_holds V row cs u h); room = ap (λ p. m.room + p) (sym (prices_handed cs)) ∙ f.room }

-- two pieces, one after the other
pub fed_pieces : (m n k : Meaning) (a b : List Clause) → Fed m (integers a) n → Fed n (integers b) k → Fed m (integers (a ++ b)) k
fed_pieces m n k a b x y = subst (λ (cs : List (List ℤ)). Fed m cs k) (sym (integers_append a b)) (fed_both m n k (integers a) (integers b) x y)

-- ── a solve keeps what is held ──
pub loaded_kept : (z : Sizes) (V : ℕ) (cs : List Clause) (m n : Meaning) → Loaded z V cs m → Kept m n → Loaded z V cs n
loaded_kept z V cs m n l k = record { sizes = k.sizes ∙ l.sizes; vars = k.vars ∙ l.vars; only = λ row a. l.only row (k.only row a); each = λ row h. k.each row (l.each row h); room = ap (λ r. r + prices cs) k.room ∙ l.room }

pub fewest_kept : (m n : Meaning) (G N k : ℕ) → Kept m n → Fewest m G N k → Fewest n G N k
fewest_kept m n G N k ke f = record { within = f.within; some = (f.some.0, ke.each f.some.0 f.some.1, f.some.2); fewer = λ j e row al off. f.fewer j e row (ke.only row al) off }
