-- The list that computes is the full list, and there is no other; each set that explains contains a minimal one.
use Rattle.std.proofs.Common.{◌≡◌, ℕ, zero, suc, ◌≤◌, Bool, true, not, ◌↔◌, List, ◌∷◌, ◌++◌, length, sym, refl, ◌∙◌, subst, inl, ⊎_elim, arith}
use mathlib.Core.Bool.{false≢true}
use Rattle.std.proofs.lemmas.Bool.{cases_Bool, and_parts, and_from, not-true, not_from_false}
use Rattle.std.specs.List.{list_any}
use Rattle.diagnosis.specs.Sets.{IsSet, Within}
use Rattle.diagnosis.specs.Explains.{ExplainsSet}
use Rattle.diagnosis.specs.Order.{InOrder}
use Rattle.diagnosis.specs.Minimal.{Minimal, IsFullList}
use Rattle.diagnosis.specs.FullList.{proper_subsets, minimal, sizes, minimal_sets, explains_case}
use Rattle.diagnosis.specs.ListLaws.{ExplainingContainsMinimal, FullListExact, FullListUnique, FullListOnce}
use Rattle.diagnosis.proofs.Members.{from_kept, in_kept, all_at, all_from, any_at, any_from}
use Rattle.diagnosis.proofs.Ordered.{before_itself, order_across, order_back, order_kept, order_unique}
use Rattle.diagnosis.proofs.Subsets.{proper_length, proper_tried, tried_proper}
use Rattle.diagnosis.proofs.Chosen.{from_sizes, in_sizes, sizes_order}
use Rattle.diagnosis.proofs.Searched.{case_decides}

module _ (n : ℕ) (Explaining : List ℕ → Type 0) (explaining : List ℕ → Bool) (decides : (S : List ℕ) → (explaining S ≡ true) ↔ Explaining S) where
  pub minimal_decides : (S : List ℕ) → IsSet n S → (minimal explaining S ≡ true) ↔ Minimal n Explaining S
  minimal_decides S s = (
    λ e.
        let (a, b) = and_parts _ _ e in
        ((decides S).0 a, λ T t p x. false≢true (sym (not-true _ (all_at (λ T. not (explaining T)) (proper_subsets S) T b (proper_tried n S T s t p))) ∙ (decides T).1 x)),
    λ m.
        and_from _ _ ((decides S).1 m.0)
        (all_from (λ T. not (explaining T)) (proper_subsets S)
        (λ T i. let (t, p) = tried_proper n S T s i in not_from_false _ (⊎_elim (λ y. absurd (m.1 T t p ((decides T).0 y))) (λ f. f) (cases_Bool (explaining T))))),
  )

  pub minimal_sets_full : (N : ℕ) → IsFullList n Explaining N (minimal_sets n explaining N)
  minimal_sets_full N = record {
    each = λ S. (
      λ h. let (i, m) = from_kept (minimal explaining) (sizes n 0 (suc N)) S h in let (s, low, high) = from_sizes n 0 (suc N) S i in (s, omega arith, (minimal_decides S s).0 m),
      λ x. in_kept (minimal explaining) (sizes n 0 (suc N)) S (in_sizes n 0 (suc N) S x.0 (omega arith) (omega arith)) ((minimal_decides S x.0).1 x.2),
    );
    order = order_kept (minimal explaining) (sizes n 0 (suc N)) (sizes_order n 0 (suc N));
  }

  -- a set that explains and is not minimal has a smaller one that explains, and so on down
  contains_minimal_of : (k : ℕ) (S : List ℕ) → length S ≤ k → IsSet n S → Explaining S → (T : List ℕ) × IsSet n T × Within T S × Minimal n Explaining T
  contains_minimal_of zero S le s x = (S, s, λ g m. m, (x, λ T t p y. let l = proper_length S T (proper_tried n S T s t p) in omega arith))
  contains_minimal_of (suc k) S le s x =
      ⊎_elim
      (λ some.
      let (T, i, y) = any_at explaining (proper_subsets S) some in
      let (t, p) = tried_proper n S T s i in
      let l = proper_length S T i in
      let (R, r, w, m) = contains_minimal_of k T (omega arith) t ((decides T).0 y) in
      (R, r, λ g q. p.0 g (w g q), m))
      (λ none. (S, s, λ g m. m, (x, λ T t p y. false≢true (sym none ∙ any_from explaining (proper_subsets S) T (proper_tried n S T s t p) ((decides T).1 y)))))
      (cases_Bool (list_any explaining (proper_subsets S)))

  pub contains_minimal : (S : List ℕ) → IsSet n S → Explaining S → (T : List ℕ) × IsSet n T × Within T S × Minimal n Explaining T
  contains_minimal S s x = contains_minimal_of (length S) S (omega arith) s x

pub explaining_contains_minimal : ExplainingContainsMinimal
explaining_contains_minimal c ts S s x = contains_minimal (length c.gates) (ExplainsSet c ts) (explains_case c ts) (case_decides c ts) S s x

pub full_list_exact : FullListExact
full_list_exact c ts N = minimal_sets_full (length c.gates) (ExplainsSet c ts) (explains_case c ts) (case_decides c ts) N

pub unique : (n : ℕ) (Explaining : List ℕ → Type 0) (N : ℕ) (K L : List (List ℕ)) → IsFullList n Explaining N K → IsFullList n Explaining N L → K ≡ L
unique n Explaining N K L k l = order_unique K L k.order l.order (λ S i. (l.each S).1 ((k.each S).0 i)) (λ S i. (k.each S).1 ((l.each S).0 i))

pub full_list_unique : FullListUnique
full_list_unique c ts N K L k l = unique (length c.gates) (ExplainsSet c ts) N K L k l

pub full_list_once : FullListOnce
full_list_once c ts N L l S before after e twice =
    let order : InOrder (before ++ S ∷ after) = subst (λ (K : List (List ℕ)). InOrder K) (sym e) l.order in
    ⊎_elim
    (λ i. before_itself S (order_across before (S ∷ after) order S S i (inl refl)))
    (λ i. before_itself S ((order_back before (S ∷ after) order).0 S i))
    twice
