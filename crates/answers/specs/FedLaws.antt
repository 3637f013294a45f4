-- No clause, and some clauses after others: what a solver that takes clauses owes.
use Rattle.std.specs.Prelude.{◌≡◌, ℕ, ◌+◌, ◌≤◌, true, List, [], ◌∷◌, ◌++◌, length, ℤ, refl}
use Rattle.std.proofs.Common.{sym, ap, ◌∙◌, zero-add, add-zero, add_assoc, arith}
use Rattle.std.proofs.lemmas.Bool.{and_from, and_parts}
use Rattle.std.specs.List.{list_all}
use Rattle.solver.specs.Rows.{some_true, price}
use Rattle.solver.specs.Meaning.{Meaning, Sizes}
use Rattle.solver.proofs.Lists.{all_append}
use Rattle.cnf_theory.specs.Sizes.{prices}
use Rattle.answers.specs.Fed.{fitting, Fits, Narrowed, Fed}

pub prices_append : (a b : List (List ℤ)) → prices (a ++ b) ≡ prices a + prices b
prices_append [] b = sym (zero-add _)
prices_append (x ∷ a) b = ap (λ n. price (length x) + n) (prices_append a b) ∙ sym (add_assoc _ _ _)

pub fed_none : (m : Meaning) → Fed m [] m
fed_none m = record { narrowed = λ h. record { sizes = refl; vars = refl; only = λ row a. (a, refl); each = λ row a _. a; room = add-zero _ } }

pub fed_both : (m n k : Meaning) (a b : List (List ℤ)) → Fed m a n → Fed n b k → Fed m (a ++ b) k
fed_both m n k a b f g = record { narrowed = both }
  where
    both : Fits m (a ++ b) → Narrowed m (a ++ b) k
    both h =
        let p = prices_append a b in
        let le : prices (a ++ b) ≤ m.room = h.room in
        let q = and_parts _ _ (sym (all_append (fitting m.sizes.width m.vars) a b) ∙ h.each) in
        let x : Narrowed m a n = f.narrowed (record { each = q.0; room = omega arith }) in
        let xr : n.room + prices a ≡ m.room = x.room in
        let same : (s : Sizes) (v : ℕ) → s ≡ m.sizes → v ≡ m.vars → list_all (fitting s.width v) b ≡ true = λ s v es ev. rw (es, ev) q.1 in
        let y : Narrowed n b k = g.narrowed (record { each = same n.sizes n.vars x.sizes x.vars; room = omega arith }) in
        let yr : k.room + prices b ≡ n.room = y.room in
        record {
          sizes = y.sizes ∙ x.sizes;
          vars = y.vars ∙ x.vars;
          only = λ row al. let s = y.only row al in let r = x.only row s.0 in (r.0, all_append (some_true row) a b ∙ and_from _ _ r.1 s.1);
          each = λ row al e. let s = and_parts _ _ (sym (all_append (some_true row) a b) ∙ e) in y.each row (x.each row al s.0) s.1;
          room = omega arith;
        }
