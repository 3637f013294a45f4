-- Tests of lists that are joined or mapped, and whether a list has an element.
use Rattle.std.proofs.Common.{◌≡◌, ◌≤◌, Bool, true, false, not, List, [], ◌∷◌, ◌++◌, map, length, refl, arith}
use Rattle.std.proofs.lemmas.Bool.{both_ways, and_parts, and_from}
use Rattle.std.specs.List.{list_all}
use Rattle.netlist_text.specs.Statements.{none}

pub all_append : {A : Type 0} (p : A → Bool) (xs ys : List A) → list_all p xs ≡ true → list_all p ys ≡ true → list_all p (xs ++ ys) ≡ true
all_append p [] ys a b = b
all_append p (x ∷ xs) ys a b = let h = and_parts (p x) (list_all p xs) a in and_from (p x) (list_all p (xs ++ ys)) h.0 (all_append p xs ys h.1 b)

pub all_map : {A B : Type 0} (p : A → Bool) (q : B → Bool) (f : A → B) (xs : List A) → ((x : A) → p x ≡ true → q (f x) ≡ true) → list_all p xs ≡ true → list_all q (map f xs) ≡ true
all_map p q f [] h a = refl
all_map p q f (x ∷ xs) h a = let r = and_parts (p x) (list_all p xs) a in and_from (q (f x)) (list_all q (map f xs)) (h x r.0) (all_map p q f xs h r.1)

pub some_append : {A : Type 0} (xs ys : List A) → none xs ≡ false → none (xs ++ ys) ≡ false
some_append [] ys e = absurd (both_ways true e refl)
some_append (x ∷ xs) ys e = refl

pub some_from_length : {A : Type 0} (xs : List A) → 1 ≤ length xs → not (none xs) ≡ true
some_from_length [] h = absurd (omega arith)
some_from_length (x ∷ xs) h = refl
