-- Literals that name variables in 1 to vars, in rows that agree on these.
use Rattle.std.proofs.Common.{◌≡◌, ℕ, suc, ◌-◌, ◌≤◌, true, not, leb, List, [], ◌∷◌, ℤ, pos, negsuc, nat_abs, refl, ap, ◌∙◌, arith}
use Rattle.std.proofs.lemmas.Bool.{and_from, and_parts, leb-true, leb-false, le-leb, cond_both}
use Rattle.solver.specs.Rows.{Row, Agree, holds, named, all_named, some_true, all_true, price}
use Rattle.solver.proofs.Lists.{all_weaker}

pub named_up : (v w : ℕ) → v ≤ w → (x : ℤ) → named v x ≡ true → named w x ≡ true
named_up v w le x h = let r = and_parts _ _ h in let l = leb-true _ _ r.1 in and_from _ _ r.0 (le-leb (nat_abs x) w (omega arith))

pub all_named_up : (v w : ℕ) → v ≤ w → (xs : List ℤ) → all_named v xs ≡ true → all_named w xs ≡ true
all_named_up v w le = all_weaker (named v) (named w) (named_up v w le)

pub holds_agree : (vars : ℕ) (a b : Row) → Agree vars a b → (x : ℤ) → named vars x ≡ true → holds a x ≡ holds b x
holds_agree vars a b g (pos n) h = let r = and_parts _ _ h in g n (leb-true _ _ r.0) (leb-true _ _ r.1)
holds_agree vars a b g (negsuc n) h = let r = and_parts _ _ h in ap not (g (suc n) (leb-true _ _ r.0) (leb-true _ _ r.1))

pub some_true_agree : (vars : ℕ) (a b : Row) → Agree vars a b → (xs : List ℤ) → all_named vars xs ≡ true → some_true a xs ≡ some_true b xs
some_true_agree vars a b g [] h = refl
some_true_agree vars a b g (x ∷ xs) h = let r = and_parts (named vars x) _ h in rw (holds_agree vars a b g x r.0, some_true_agree vars a b g xs r.1) refl

pub all_true_agree : (vars : ℕ) (a b : Row) → Agree vars a b → (xs : List ℤ) → all_named vars xs ≡ true → all_true a xs ≡ all_true b xs
all_true_agree vars a b g [] h = refl
all_true_agree vars a b g (x ∷ xs) h = let r = and_parts (named vars x) _ h in rw (holds_agree vars a b g x r.0, all_true_agree vars a b g xs r.1) refl

pub agree_through : (f g : ℕ) (a b c : Row) → f ≤ g → Agree f a b → Agree g b c → Agree f a c
agree_through f g a b c l p q k low high = p k low high ∙ q k low (omega arith)

-- every clause costs something
pub price_positive : (n : ℕ) → 1 ≤ price n
price_positive n = cond_both (leb n 3) 1 (n - 2) (λ p. 1 ≤ p) (λ e. omega arith) (λ e. omega (arith, leb-false n 3 e))
