-- Among distinct names, each is found at its own number, and a name that comes later is not found.
use Rattle.std.proofs.Common.{◌≡◌, ℕ, zero, suc, ◌+◌, ◌<◌, true, false, List, [], ◌∷◌, ◌++◌, length, get_or, Some, None, sym, refl, ap, ◌∙◌, ⊎_elim, arith}
use Rattle.std.proofs.lemmas.List.{length-append, get_or_append_left, get_or_at}
use Rattle.std.proofs.lemmas.Bool.{cond-true, cond-false, cases_Bool}
use Rattle.netlist_text.specs.Statements.{Name}
use Rattle.netlist_text.specs.Netlists.{same_name, find}
use Rattle.netlist_text.specs.Law.{Distinct, Apart}
use Rattle.netlist_text.proofs.Distinct.{same_name_itself}

-- ── by the names one by one ──
pub find_none : (k : ℕ) (xs : List Name) (w : Name) → ((j : ℕ) → j < length xs → same_name (get_or xs j []) w ≡ false) → find k xs w ≡ None
find_none k [] w f = refl
find_none k (x ∷ xs) w f = cond-false (same_name x w) (Some k) (find (k + 1) xs w) (f 0 (omega arith)) ∙ find_none (k + 1) xs w (λ j h. f (suc j) (omega arith))

pub find_first : (k : ℕ) (xs : List Name) (w : Name) (i : ℕ) → i < length xs → ((j : ℕ) → j < i → same_name (get_or xs j []) w ≡ false) → same_name (get_or xs i []) w ≡ true → find k xs w ≡ Some (k + i)
find_first k [] w i h f t = absurd (omega arith)
find_first k (x ∷ xs) w zero h f t = let e : k ≡ k + zero = omega arith in cond-true (same_name x w) (Some k) (find (k + 1) xs w) t ∙ ap Some e
find_first k (x ∷ xs) w (suc i) h f t =
    let e : k + 1 + i ≡ k + suc i = omega arith in
    cond-false (same_name x w) (Some k) (find (k + 1) xs w) (f 0 (omega arith))
    ∙ find_first (k + 1) xs w i (omega arith) (λ j l. f (suc j) (omega arith)) t
    ∙ ap Some e

-- ── among distinct names ──
distinct_at : (ns : List Name) → Distinct ns → (i j : ℕ) → i < j → j < length ns → same_name (get_or ns i []) (get_or ns j []) ≡ false
distinct_at ns d i j l h = ⊎_elim (λ t. absurd (omega (arith, d i j (omega arith) h t))) (λ f. f) (cases_Bool (same_name (get_or ns i []) (get_or ns j [])))

pub new_name : (xs : List Name) (w : Name) (ys : List Name) → Distinct (xs ++ w ∷ ys) → find 1 xs w ≡ None
new_name xs w ys d =
    find_none 1 xs w (λ j h.
    let all = xs ++ w ∷ ys in
    ap (λ v. same_name v w) (sym (get_or_append_left xs (w ∷ ys) [] j h))
    ∙ ap (same_name (get_or all j [])) (sym (get_or_at xs w ys [] (length xs) refl))
    ∙ distinct_at all d j (length xs) h (omega (arith, length-append xs (w ∷ ys))))

pub own_number : (xs ys : List Name) (i : ℕ) → Distinct (xs ++ ys) → i < length xs → find 1 xs (get_or (xs ++ ys) i []) ≡ Some (suc i)
own_number xs ys i d h =
    let w = get_or (xs ++ ys) i [] in
    let e : 1 + i ≡ suc i = omega arith in
    find_first 1 xs w i h
    (λ j l. ap (λ v. same_name v w) (sym (get_or_append_left xs ys [] j (omega arith))) ∙ distinct_at (xs ++ ys) d j i l (omega (arith, length-append xs ys)))
    (ap (λ v. same_name v w) (sym (get_or_append_left xs ys [] i h)) ∙ same_name_itself w)
    ∙ ap Some e

pub other_names : (xs ys : List Name) (j : ℕ) → Apart xs ys → j < length ys → find 1 xs (get_or ys j []) ≡ None
other_names xs ys j a h = find_none 1 xs (get_or ys j []) (λ i l. a i j l h)
