-- A chain that is handed on three by three.
use Rattle.std.proofs.Common.{◌≡◌, ℕ, zero, suc, ◌+◌, ◌<◌, ◌≤◌, Bool, true, false, not, ◌&&◌, ◌||◌, ltb, leb, List, [], ◌∷◌, length, get_or, drop, ℤ, pos, neg_ℤ, nat_abs, sym, refl, ap, ◌∙◌, arith, drop-cons}
use lib.Seq.{drop-length}
use Rattle.std.proofs.Math.Bool.{or-false}
use Rattle.std.proofs.lemmas.Bool.{and_from, and_parts, cond-true, le-leb, lt-ltb}
use Rattle.solver.specs.Rows.{Row, holds, named, some_true, price}
use Rattle.solver.specs.Meaning.{Meaning, Added}
use Rattle.splitter.specs.Chains.{chain, in_threes, Split}

-- with what is left to say, the solver now says what it said at first with the whole
pub record Partly (m : Meaning) (whole : Row → Bool) (n : Meaning) (rest : Row → Bool) (spent : ℕ) : Type 0 where
  pub sizes : n.sizes ≡ m.sizes
  pub vars : n.vars ≡ m.vars
  pub only : (row : Row) → n.allowed row → rest row ≡ true → m.allowed row × (whole row ≡ true)
  pub each : (row : Row) → m.allowed row → whole row ≡ true → n.allowed row × (rest row ≡ true)
  pub room : n.room + spent ≡ m.room

pub partly_none : (m : Meaning) (whole rest : Row → Bool) → ((row : Row) → whole row ≡ rest row) → Partly m whole m rest 0
partly_none m whole rest e = record { sizes = refl; vars = refl; only = λ row p t. (p, e row ∙ t); each = λ row p t. (p, sym (e row) ∙ t); room = omega arith }

module _ (m : Meaning) (whole : Row → Bool) (n : Meaning) (rest : Row → Bool) (spent : ℕ) (h : Partly m whole n rest spent) (c : List ℤ) (short : length c ≤ 3) (k : Meaning) (added : Added n c k) where
  cost : price (length c) ≡ 1
  cost = cond-true _ _ _ (le-leb (length c) 3 short)

  -- one clause more was added
  pub partly_more : (left : Row → Bool) → ((row : Row) → rest row ≡ (some_true row c && left row)) → (paid : ℕ) → paid ≡ spent + 1 → Partly m whole k left paid
  partly_more left e paid f =
      let r = h.room in
      let s = added.room in
      let p = cost in
      record {
        sizes = added.sizes ∙ h.sizes;
        vars = added.vars ∙ h.vars;
        only = λ row p t. let q = added.only row p in h.only row q.0 (e row ∙ and_from _ _ q.1 t);
        each = λ row p t. let q = h.each row p t in let f = and_parts (some_true row c) (left row) (sym (e row) ∙ q.1) in (added.each row q.0 f.0, f.1);
        room = omega arith;
      }

  -- the last clause was added
  pub partly_all : ((row : Row) → rest row ≡ some_true row c) → (clause : List ℤ) (last : ℕ) → ((row : Row) → whole row ≡ in_threes row clause last) → price (length clause) ≡ spent + 1 → Split m clause last k
  partly_all e clause last w paid =
      let r = h.room in
      let s = added.room in
      let p = cost in
      record {
        sizes = added.sizes ∙ h.sizes;
        vars = added.vars ∙ h.vars;
        only = λ row p. let q = added.only row p in let f = h.only row q.0 (e row ∙ q.1) in (f.0, sym (w row) ∙ f.1);
        each = λ row p t. let q = h.each row p (w row ∙ t) in added.each row q.0 (sym (e row) ∙ q.1);
        room = omega arith;
        shown = added.shown;
      }

-- a short clause is its own three
threes_short : (row : Row) (c : List ℤ) (last : ℕ) → length c ≤ 3 → in_threes row c last ≡ some_true row c
threes_short row [] last l = refl
threes_short row (x ∷ []) last l = sym (or-false (holds row x))
threes_short row (x ∷ (y ∷ [])) last l = ap (λ b. holds row x || b) (sym (or-false (holds row y)))
threes_short row (x ∷ (y ∷ (z ∷ []))) last l = ap (λ b. holds row x || (holds row y || b)) (sym (or-false (holds row z)))
threes_short row (x ∷ (y ∷ (z ∷ (w ∷ ws)))) last l = absurd (omega arith)

pub split_short : (m n : Meaning) (c : List ℤ) (last : ℕ) → length c ≤ 3 → Added m c n → Split m c last n
split_short m n c last l a = record {
  sizes = a.sizes;
  vars = a.vars;
  only = λ row p. let q = a.only row p in (q.0, threes_short row c last l ∙ q.1);
  each = λ row p t. a.each row p (sym (threes_short row c last l) ∙ t);
  room = a.room;
  shown = a.shown;
}

-- the negation of a variable's literal
pub holds_negation : (row : Row) (v : ℕ) → 1 ≤ v → holds row (neg_ℤ (pos v)) ≡ not (row v)
holds_negation row zero l = absurd (omega arith)
holds_negation row (suc v) l = refl

pub abs_negation : (v : ℕ) → nat_abs (neg_ℤ (pos v)) ≡ v
abs_negation zero = refl
abs_negation (suc v) = refl

pub named_positive : (vars v : ℕ) → 1 ≤ v → v ≤ vars → named vars (pos v) ≡ true
named_positive vars v l h = and_from _ _ (lt-ltb 0 v l) (le-leb v vars h)

pub named_negation : (vars v : ℕ) → 1 ≤ v → v ≤ vars → named vars (neg_ℤ (pos v)) ≡ true
named_negation vars v l h = ap (λ n. ltb 0 n && leb n vars) (abs_negation v) ∙ named_positive vars v l h

-- three literals or more are left: the first goes with a fresh variable
fresh_step : (xs : List ℤ) (i f : ℕ) (head : ℤ) → i + 2 < length xs → (row : Row) → chain row (holds row head) (drop i xs) f ≡ (some_true row (head ∷ (get_or xs i (pos 0) ∷ (pos (f + 1) ∷ []))) && chain row (holds row (neg_ℤ (pos (f + 1)))) (drop (i + 1) xs) (f + 1))
fresh_step xs i f head l row =
    let x = get_or xs i (pos 0) in
    let rest = drop (suc (suc (suc i))) xs in
    let two : drop (suc i) xs ≡ get_or xs (suc i) (pos 0) ∷ (get_or xs (suc (suc i)) (pos 0) ∷ rest) = drop-cons xs (suc i) (pos 0) (omega arith) ∙ ap (λ r. get_or xs (suc i) (pos 0) ∷ r) (drop-cons xs (suc (suc i)) (pos 0) (omega arith)) in
    let three = drop-cons xs i (pos 0) (omega arith) ∙ ap (λ r. x ∷ r) two in
    let e : suc f ≡ f + 1 = omega arith in
    let d : i + 1 ≡ suc i = omega arith in
    let sign : holds row (neg_ℤ (pos (f + 1))) ≡ not (row (suc f)) = holds_negation row (f + 1) (omega arith) ∙ ap (λ v. not (row v)) (sym e) in
    ap (λ r. chain row (holds row head) r f) three
    ∙ ap (λ b. (holds row head || (holds row x || b)) && chain row (not (row (suc f))) (get_or xs (suc i) (pos 0) ∷ (get_or xs (suc (suc i)) (pos 0) ∷ rest)) (suc f)) (ap row e ∙ sym (or-false (row (f + 1))))
    ∙ ap (λ r. some_true row (head ∷ (x ∷ (pos (f + 1) ∷ []))) && chain row (not (row (suc f))) r (suc f)) (sym two ∙ ap (λ k. drop k xs) (sym d))
    ∙ ap (λ b. some_true row (head ∷ (x ∷ (pos (f + 1) ∷ []))) && chain row b (drop (i + 1) xs) (suc f)) (sym sign)
    ∙ ap (λ k. some_true row (head ∷ (x ∷ (pos (f + 1) ∷ []))) && chain row (holds row (neg_ℤ (pos (f + 1)))) (drop (i + 1) xs) k) e

pub chain_step : (xs : List ℤ) (i f : ℕ) (head x link turned : ℤ) → i + 2 < length xs → x ≡ get_or xs i (pos 0) → link ≡ pos (f + 1) → turned ≡ neg_ℤ (pos (f + 1)) → (row : Row) → chain row (holds row head) (drop i xs) f ≡ (some_true row (head ∷ (x ∷ (link ∷ []))) && chain row (holds row turned) (drop (i + 1) xs) (f + 1))
chain_step xs i f head x link turned l ex el et row =
    fresh_step xs i f head l row
    ∙ ap (λ y. some_true row (head ∷ (y ∷ (pos (f + 1) ∷ []))) && chain row (holds row (neg_ℤ (pos (f + 1)))) (drop (i + 1) xs) (f + 1)) (sym ex)
    ∙ ap (λ y. some_true row (head ∷ (x ∷ (y ∷ []))) && chain row (holds row (neg_ℤ (pos (f + 1)))) (drop (i + 1) xs) (f + 1)) (sym el)
    ∙ ap (λ y. some_true row (head ∷ (x ∷ (link ∷ []))) && chain row (holds row y) (drop (i + 1) xs) (f + 1)) (sym et)

-- two literals are left: they end the chain
pub chain_last : (xs : List ℤ) (i f : ℕ) (head x y : ℤ) → i + 2 ≡ length xs → x ≡ get_or xs i (pos 0) → y ≡ get_or xs (i + 1) (pos 0) → (row : Row) → chain row (holds row head) (drop i xs) f ≡ some_true row (head ∷ (x ∷ (y ∷ [])))
chain_last xs i f head x y l ex ey row =
    let d : i + 1 ≡ suc i = omega arith in
    let end : suc (suc i) ≡ length xs = omega arith in
    let none : drop (suc (suc i)) xs ≡ [] = ap (λ k. drop k xs) end ∙ drop-length xs in
    let two = drop-cons xs i (pos 0) (omega arith) ∙ ap (λ r. get_or xs i (pos 0) ∷ r) (drop-cons xs (suc i) (pos 0) (omega arith) ∙ ap (λ r. get_or xs (suc i) (pos 0) ∷ r) none) in
    ap (λ r. chain row (holds row head) r f) two
    ∙ ap (λ b. holds row head || (holds row (get_or xs i (pos 0)) || b)) (sym (or-false (holds row (get_or xs (suc i) (pos 0)))) ∙ ap (λ k. holds row (get_or xs k (pos 0)) || false) (sym d))
    ∙ ap (λ z. holds row head || (holds row z || (holds row (get_or xs (i + 1) (pos 0)) || false))) (sym ex)
    ∙ ap (λ z. holds row head || (holds row x || (holds row z || false))) (sym ey)

-- the first literal begins the chain
pub chain_first : (xs : List ℤ) (f : ℕ) → 1 ≤ length xs → (row : Row) → in_threes row xs f ≡ chain row (holds row (get_or xs 0 (pos 0))) (drop 1 xs) f
chain_first [] f l row = absurd (omega arith)
chain_first (x ∷ xs) f l row = refl
