-- Picks of no clause, and of some clauses after others: what a sink owes.
use Rattle.std.specs.Prelude.{◌≡◌, ℕ, zero, suc, ◌+◌, ◌-◌, ◌<◌, ◌≤◌, List, [], ◌∷◌, ◌++◌, length, get_or, take, ℤ, slice_index_or, refl}
use Rattle.std.proofs.Common.{⊎_elim, sym, ap, ◌∙◌, le_of_suc-le-suc, arith, length-append}
use Rattle.std.proofs.lemmas.Bool.{cases_lt}
use Rattle.inline_list.specs.declared.list.InlineList.{InlineList}
use Rattle.inline_list.specs.Listed.{listed}
use Rattle.dimacs.specs.Picked.{Picked}
use Rattle.dimacs.specs.declared.pick.Pick.{Pick}
use Rattle.dimacs.specs.declared.pick.Pick.TheVariants.{Skipping, Found}

front : (a b : List (List ℤ)) (i : ℕ) → i < length a → slice_index_or (a ++ b) i [] ≡ slice_index_or a i []
front [] b i l = absurd (omega arith)
front (x ∷ a) b zero l = refl
front (x ∷ a) b (suc i) l = front a b i (le_of_suc-le-suc l)

back : (a b : List (List ℤ)) (i j : ℕ) → j + length a ≡ i → slice_index_or (a ++ b) i [] ≡ slice_index_or b j []
back [] b i j e = ap (λ k. get_or b k []) (let z : i ≡ j = omega arith in z)
back (x ∷ a) b zero j e = absurd (omega arith)
back (x ∷ a) b (suc i) j e = back a b i j (omega arith)

pub picked_none : (s : Pick) → Picked s [] s
picked_none s = record { past = λ l e. refl; before = λ n e l. e ∙ ap Skipping (let z : n ≡ n - 0 = omega arith in z); found = λ n e l. absurd (omega arith) }

pub picked_both : (s t u : Pick) (a b : List (List ℤ)) → Picked s a t → Picked t b u → Picked s (a ++ b) u
picked_both s t u a b x y =
    let m = length-append a b in
    record {
      past = λ l e. y.past l (x.past l e ∙ e) ∙ x.past l e;
      before = λ n e le.
          let f : length a ≤ n = omega arith in
          let g : length b ≤ n - length a = omega arith in
          y.before _ (x.before n e f) g ∙ ap Skipping (let z : n - length a - length b ≡ n - length (a ++ b) = omega arith in z);
      found = λ n e lt. ⊎_elim
          (λ (near : n < length a).
          let p = x.found n e near in
          (p.0, y.past p.0 p.1 ∙ p.1, p.2 ∙ ap (take 9) (sym (front a b n near))))
          (λ (far : length a ≤ n).
          let k : n - length a + length a ≡ n = omega arith in
          let q = back a b n (n - length a) k in
          let p = y.found (n - length a) (x.before n e far) (omega arith) in
          (p.0, p.1, p.2 ∙ ap (take 9) (sym q)))
          (cases_lt n (length a));
    }

abbrev left_of : Pick → ℕ
left_of (Skipping n) = n
left_of (Found l) = 0

-- the clause that none is to pass before, its first nine literals kept
pub picked_here : (s : Pick) (l : InlineList ℤ 9) (c : List ℤ) → s ≡ Skipping 0 → listed l ≡ take 9 c → Picked s (c ∷ []) (Found l)
picked_here s l c at is = record {
  past = λ k e. absurd (other k (sym at ∙ e));
  before = λ n e le. absurd (let z : 0 ≡ n = ap left_of (sym at ∙ e) in omega arith);
  found = λ n e lt. (l, refl, is ∙ ap (λ (k : ℕ). take 9 (slice_index_or (c ∷ []) k [])) (ap left_of (sym at ∙ e)));
}
  where
    other : (k : InlineList ℤ 9) → Skipping 0 ≡ Found k → ⊥
    other k e = cc
