-- From the clause that was picked to the line.
use Rattle.std.proofs.Common.{◌≡◌, ℕ, zero, suc, ◌^◌, ◌<◌, ◌≤◌, List, [], ◌∷◌, ◌++◌, map, length, get_or, Some, None, Option, ℤ, decimal, sym, refl, ap, ◌∙◌, ⊎_elim, arith, length-append, take_all}
use Rattle.std.specs.List.{flat_map, slice_get, AllByRecursion}
use Rattle.std.proofs.lemmas.List.{length-map}
use Rattle.std.proofs.lemmas.Bool.{cases_lt}
use Rattle.std.specs.Fmt.{signed_decimal}
use Rattle.std.proofs.lemmas.Fmt.{length-decimal-le}
use Rattle.cnf_theory.specs.Literals.{Clause, integer, integers}
use Rattle.cnf_theory.specs.Dimacs.{word, clause_line, head_line}
use Rattle.cnf_theory.proofs.Lengths.{Short}
use Rattle.std.specs.Option.{option_map}
use Rattle.inline_list.specs.declared.list.InlineList.{InlineList}
use Rattle.inline_list.specs.Listed.{listed}
use Rattle.dimacs.specs.Texts.{words_of}
use Rattle.dimacs.specs.Picked.{Picked}
use Rattle.dimacs.specs.declared.pick.Pick.{Pick}
use Rattle.dimacs.specs.declared.pick.Pick.TheVariants.{Skipping, Found}

words_of_clause : (c : Clause) → words_of (map integer c) ≡ flat_map (λ x. word x ++ 32 ∷ []) c
words_of_clause [] = refl
words_of_clause (x ∷ c) = ap (λ r. (signed_decimal (integer x) ++ 32 ∷ []) ++ r) (words_of_clause c)

line_of_clause : (c : Clause) → words_of (map integer c) ++ 48 ∷ 10 ∷ [] ≡ clause_line c
line_of_clause c = ap (λ r. r ++ 48 ∷ 10 ∷ []) (words_of_clause c)

handed_at : (cs : List Clause) (j : ℕ) → j < length cs → get_or (integers cs) j [] ≡ map integer (get_or cs j [])
handed_at [] j l = absurd (omega arith)
handed_at (c ∷ cs) zero l = refl
handed_at (c ∷ cs) (suc j) l = handed_at cs j (omega arith)

short_at : (cs : List Clause) (j : ℕ) → j < length cs → AllByRecursion Short cs → length (get_or cs j []) ≤ 9
short_at [] j l h = absurd (omega arith)
short_at (c ∷ cs) zero l h = h.0
short_at (c ∷ cs) (suc j) l h = short_at cs j (omega arith) h.1

nth_mapped : {X Y : Type 0} (f : X → Y) (xs : List X) (j : ℕ) (d : X) → j < length xs → slice_get (map f xs) j ≡ Some (f (get_or xs j d))
nth_mapped f [] j d l = absurd (omega arith)
nth_mapped f (x ∷ xs) zero d l = refl
nth_mapped f (x ∷ xs) (suc j) d l = nth_mapped f xs j d (omega arith)

nth_none : {X Y : Type 0} (f : X → Y) (xs : List X) (j : ℕ) → length xs ≤ j → slice_get (map f xs) j ≡ None
nth_none f [] j l = refl
nth_none f (x ∷ xs) zero l = absurd (omega arith)
nth_none f (x ∷ xs) (suc j) l = nth_none f xs j (omega arith)

abbrev pub found_of : Pick → Option (InlineList ℤ 9)
found_of (Skipping n) = None
found_of (Found l) = Some l

-- a pick that went through all clauses holds the one of its number, if there is one
pub picked_is : (cs : List Clause) (j : ℕ) (t : Pick) → AllByRecursion Short cs → Picked (Skipping j) (integers cs) t → option_map listed (found_of t) ≡ slice_get (integers cs) j
picked_is cs j t short p =
    let n : length (integers cs) ≡ length cs = length-map cs (map integer) in
    let held : Pick → Option (List ℤ) = λ k. option_map listed (found_of k) in
    ⊎_elim
    (λ (near : j < length cs).
    let e = handed_at cs j near in
    let few = short_at cs j near short in
    let m = ap length e ∙ length-map (get_or cs j []) integer in
    let h = p.found j refl (omega arith) in
    let whole = take_all 9 (get_or (integers cs) j []) (omega arith) in
    ap held h.1 ∙ ap Some (h.2 ∙ whole ∙ e) ∙ sym (nth_mapped (map integer) cs j [] near))
    (λ (far : length cs ≤ j). ap held (p.before j refl (omega arith)) ∙ sym (nth_none (map integer) cs j far))
    (cases_lt j (length cs))

pub line_at_clause : (cs : List Clause) (j : ℕ) → option_map (λ zs. words_of zs ++ 48 ∷ 10 ∷ []) (slice_get (integers cs) j) ≡ slice_get (map clause_line cs) j
line_at_clause [] j = refl
line_at_clause (c ∷ cs) zero = ap Some (line_of_clause c)
line_at_clause (c ∷ cs) (suc j) = line_at_clause cs j

pub head_short : (v n : ℕ) → v < 2 ^ 64 → n < 2 ^ 64 → length (head_line v n) ≤ 128
head_short v n a b =
    let d = length-decimal-le 20 v (omega arith) (omega arith) a in
    let e = length-decimal-le 20 n (omega arith) (omega arith) b in
    let x = length-append (decimal v ++ 32 ∷ decimal n) (10 ∷ []) in
    let y = length-append (decimal v) (32 ∷ decimal n) in
    omega arith
