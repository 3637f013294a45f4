-- A set grows with the gates that are decided.
use Rattle.std.proofs.Common.{◌≡◌, ℕ, ◌+◌, ◌<◌, Bool, true, false, cond, ltb, List, [], ◌∷◌, ◌++◌, length, set, ℤ, sym, ap, ◌∙◌, append-nil, arith}
use Rattle.std.proofs.lemmas.Bool.{lt-ltb}
use Rattle.diagnosis.specs.Marked.{marked}
use Rattle.cnf_theory.specs.Literals.{integer, signed}
use Rattle.answers.specs.Assumed.{decided}
use Rattle.answers.proofs.Answering.{marked_step}

-- a gate that was marked joins the set
pub set_joined : (n : ℕ) (xs ys : List ℤ) (S T : List ℕ) (b r : Bool) → b ≡ true → n + 1 < length xs → ys ≡ set xs (n + 1) (integer (signed b (n + 1))) → S ≡ marked (decided xs) n → length S < 6 → r ≡ ltb (length S) 6 → T ≡ cond r (S ++ (n + 1) ∷ []) S → T ≡ marked (decided ys) (n + 1)
set_joined n xs ys S T b r on l e is few q t =
    t
    ∙ ap (λ x. cond x (S ++ (n + 1) ∷ []) S) (q ∙ lt-ltb (length S) 6 few)
    ∙ ap (λ X. X ++ (n + 1) ∷ []) is
    ∙ ap (λ x. marked (decided xs) n ++ cond x ((n + 1) ∷ []) []) (sym on)
    ∙ sym (ap (λ zs. marked (decided zs) (n + 1)) e ∙ marked_step xs n (n + 1) b (omega arith) l)

-- one that was not leaves it as it is
pub set_stays : (n : ℕ) (xs ys : List ℤ) (S T : List ℕ) (b : Bool) → b ≡ false → n + 1 < length xs → ys ≡ set xs (n + 1) (integer (signed b (n + 1))) → S ≡ marked (decided xs) n → T ≡ S → T ≡ marked (decided ys) (n + 1)
set_stays n xs ys S T b off l e is t =
    t
    ∙ is
    ∙ sym (append-nil _)
    ∙ ap (λ x. marked (decided xs) n ++ cond x ((n + 1) ∷ []) []) (sym off)
    ∙ sym (ap (λ zs. marked (decided zs) (n + 1)) e ∙ marked_step xs n (n + 1) b (omega arith) l)
