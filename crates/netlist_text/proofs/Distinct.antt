-- Names stay distinct as new ones join.
use Rattle.std.proofs.Common.{◌≡◌, ℕ, zero, suc, ◌+◌, ◌<◌, ◌≤◌, true, false, List, [], ◌∷◌, ◌++◌, length, get_or, Some, None, Option, sym, refl, ap, ◌∙◌, subst, ⊎_elim, arith}
use Rattle.std.proofs.lemmas.Slice.Eq.{bytes_eq-Decides}
use Rattle.std.proofs.lemmas.List.{length_push, get_or_push, get_or_append_left}
use Rattle.std.proofs.lemmas.Bool.{cond-true, cond-false, cases_Bool, cases_lt, both_ways}
use Rattle.netlist_text.specs.Statements.{Name}
use Rattle.netlist_text.specs.Netlists.{same_name, find}
use Rattle.netlist_text.specs.Law.{Distinct, Apart}

pub same_name_itself : (n : Name) → same_name n n ≡ true
same_name_itself n = (bytes_eq-Decides n n).1 refl

pub same_name_back : (a b : Name) → same_name a b ≡ false → same_name b a ≡ false
same_name_back a b e = ⊎_elim (λ t. absurd (both_ways (same_name a b) e (subst (λ (x : Name). same_name a x ≡ true) (sym ((bytes_eq-Decides b a).0 t)) (same_name_itself a)))) (λ f. f) (cases_Bool (same_name b a))

-- a name that is not found is none of these
pub not_found : (k : ℕ) (ns : List Name) (m : Name) → find k ns m ≡ None → (i : ℕ) → i < length ns → same_name (get_or ns i []) m ≡ false
not_found k [] m e i h = absurd (omega arith)
not_found k (n ∷ ns) m e zero h = ⊎_elim
    (λ t. let q : ◌≡◌ {A = Option ℕ} (Some k) None = sym (cond-true (same_name n m) (Some k) (find (k + 1) ns m) t) ∙ e in absurd (grind arith))
    (λ f. f)
    (cases_Bool (same_name n m))
not_found k (n ∷ ns) m e (suc i) h = ⊎_elim
    (λ t. let q : ◌≡◌ {A = Option ℕ} (Some k) None = sym (cond-true (same_name n m) (Some k) (find (k + 1) ns m) t) ∙ e in absurd (grind arith))
    (λ f. not_found (k + 1) ns m (sym (cond-false (same_name n m) (Some k) (find (k + 1) ns m) f) ∙ e) i (omega arith))
    (cases_Bool (same_name n m))

-- what stands at a place of names with one more at the end
old_place : (ns : List Name) (m : Name) (i : ℕ) → i < length ns → get_or (ns ++ m ∷ []) i [] ≡ get_or ns i []
old_place ns m i h = get_or_append_left ns (m ∷ []) [] i h

new_place : (ns : List Name) (m : Name) (i : ℕ) → i < length (ns ++ m ∷ []) → length ns ≤ i → (get_or (ns ++ m ∷ []) i [] ≡ m) × (i ≡ length ns)
new_place ns m i h ge = let is : length ns ≡ i = omega (arith, length_push ns m) in (get_or_push ns m [] i is, sym is)

pub distinct_push : (ns : List Name) (m : Name) → Distinct ns → ((i : ℕ) → i < length ns → same_name (get_or ns i []) m ≡ false) → Distinct (ns ++ m ∷ [])
distinct_push ns m d f i j hi hj e =
    ⊎_elim
    (λ li. ⊎_elim
    (λ lj. d i j li lj (sym (λ k. same_name (old_place ns m i li k) (old_place ns m j lj k)) ∙ e))
    (λ gj. absurd (both_ways (same_name (get_or ns i []) m) (f i li) (sym (λ k. same_name (old_place ns m i li k) ((new_place ns m j hj gj).0 k)) ∙ e)))
    (cases_lt j (length ns)))
    (λ gi. ⊎_elim
    (λ lj. absurd (both_ways (same_name m (get_or ns j [])) (same_name_back (get_or ns j []) m (f j lj)) (sym (λ k. same_name ((new_place ns m i hi gi).0 k) (old_place ns m j lj k)) ∙ e)))
    (λ gj. (new_place ns m i hi gi).1 ∙ sym (new_place ns m j hj gj).1)
    (cases_lt j (length ns)))
    (cases_lt i (length ns))

pub apart_push : (ns ms : List Name) (m : Name) → Apart ns ms → ((i : ℕ) → i < length ns → same_name (get_or ns i []) m ≡ false) → Apart ns (ms ++ m ∷ [])
apart_push ns ms m a f i j hi hj =
    ⊎_elim
    (λ lj. ap (same_name (get_or ns i [])) (old_place ms m j lj) ∙ a i j hi lj)
    (λ gj. ap (same_name (get_or ns i [])) (new_place ms m j hj gj).0 ∙ f i hi)
    (cases_lt j (length ms))

pub apart_more : (ns ms : List Name) (m : Name) → Apart ns ms → ((j : ℕ) → j < length ms → same_name (get_or ms j []) m ≡ false) → Apart (ns ++ m ∷ []) ms
apart_more ns ms m a f i j hi hj =
    ⊎_elim
    (λ li. ap (λ x. same_name x (get_or ms j [])) (old_place ns m i li) ∙ a i j li hj)
    (λ gi. ap (λ x. same_name x (get_or ms j [])) (new_place ns m i hi gi).0 ∙ same_name_back (get_or ms j []) m (f j hj))
    (cases_lt i (length ns))
