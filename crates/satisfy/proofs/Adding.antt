-- One clause more of a list.
use Rattle.std.proofs.Common.{◌≡◌, ℕ, suc, ◌+◌, ◌-◌, ◌<◌, Bool, true, false, leb, List, [], ◌∷◌, ◌++◌, length, get_or, take, drop, ℤ, is_some, None, Option, sym, refl, ap, ◌∙◌, add-one, arith, drop-cons, Bor}
use Rattle.std.proofs.lemmas.List.{take_more}
use Rattle.std.proofs.lemmas.Bool.{and_from, and_parts, true≢false}
use Rattle.solver.specs.Rows.{Row, some_true, all_named, price}
use Rattle.solver.specs.Meaning.{Meaning, Added}
use Rattle.solver.specs.Refusals.{asked, add_refusal}
use Rattle.std.proofs.lemmas.List.Folds.{list_all-append}
use Rattle.satisfy.specs.Clauses.{Clauses, every_true, prices, adds_refusal, Narrowed}

prices_append : (xs ys : Clauses) → prices (xs ++ ys) ≡ prices xs + prices ys
prices_append [] ys = omega arith
prices_append (x ∷ xs) ys = let h = prices_append xs ys in omega arith

narrowed_push : (m n k : Meaning) (cs : Clauses) (c : Bor (List ℤ)) → Narrowed m cs n → Added n c.now k → Narrowed m (cs ++ (c ∷ [])) k
narrowed_push m n k cs c h a =
    let one = prices_append cs (c ∷ []) in
    let was = h.room in
    let is = a.room in
    let split = λ (row : Row). list_all-append (λ (x : Bor (List ℤ)). some_true row x.now) cs (c ∷ []) in
    record {
      sizes = a.sizes ∙ h.sizes;
      vars = a.vars ∙ h.vars;
      only = λ row p. let q = a.only row p in let r = h.only row q.0 in (r.0, split row ∙ and_from _ _ r.1 (and_from _ _ q.1 refl));
      each = λ row p e. let q = and_parts (every_true row cs) _ (sym (split row) ∙ e) in a.each row (h.each row p q.0) (and_parts (some_true row c.now) _ q.1).0;
      room = omega arith;
    }

pub narrowed_more : (m n k : Meaning) (cs : Clauses) (i : ℕ) (d : Bor (List ℤ)) → i < length cs → Narrowed m (take i cs) n → Added n (get_or cs i d).now k → Narrowed m (take (i + 1) cs) k
narrowed_more m n k cs i d l h a = rw (take_more cs i d l) (narrowed_push m n k (take i cs) (get_or cs i d) h a)

-- questions of one call before those of others
passed : (a b d : Bool) (rest : Option ℕ) → asked 22 a (asked 21 b (asked 23 d None)) ≡ None → asked 22 a (asked 21 b (asked 23 d rest)) ≡ rest
passed true true true rest h = refl
passed true true false rest h = absurd (true≢false (ap is_some h))
passed true false d rest h = absurd (true≢false (ap is_some h))
passed false b d rest h = absurd (true≢false (ap is_some h))

module _ (m n : Meaning) (cs : Clauses) (i : ℕ) (d : Bor (List ℤ)) (l : i < length cs) (h : Narrowed m (take i cs) n) where
  -- what is asked of the clauses left, as the solver now stands
  opened : adds_refusal m.sizes m.vars n.room (drop i cs) ≡ adds_refusal n.sizes n.vars n.room (get_or cs i d ∷ drop (suc i) cs)
  opened = ap (λ z. adds_refusal z m.vars n.room (drop i cs)) (sym h.sizes) ∙ ap (λ v. adds_refusal n.sizes v n.room (drop i cs)) (sym h.vars) ∙ ap (adds_refusal n.sizes n.vars n.room) (drop-cons cs i d l)

  pub adds_more : (k : Meaning) → None ≡ add_refusal n (get_or cs i d).now → Added n (get_or cs i d).now k → adds_refusal m.sizes m.vars n.room (drop i cs) ≡ adds_refusal m.sizes m.vars k.room (drop (i + 1) cs)
  adds_more k e a =
      let x = (get_or cs i d).now in
      let is = a.room in
      let room : n.room - price (length (get_or cs i d).now) ≡ k.room = omega arith in
      opened ∙ passed (leb (length x) n.sizes.width) (all_named n.vars x) (leb (price (length x)) n.room) _ (sym e) ∙ ap (λ r. adds_refusal n.sizes n.vars r (drop (suc i) cs)) room ∙ ap (λ z. adds_refusal z n.vars k.room (drop (suc i) cs)) h.sizes ∙ ap (λ v. adds_refusal m.sizes v k.room (drop (suc i) cs)) h.vars ∙ ap (λ j. adds_refusal m.sizes m.vars k.room (drop j cs)) (sym (add-one i))
