-- One piece of the walk after another.
use Rattle.std.proofs.Common.{◌≡◌, ℕ, zero, suc, ◌+◌, List, [], ◌∷◌, ◌++◌, ℤ, sym, ap, ◌∙◌, subst, append_assoc, append-nil, add-zero, add-one, arith}
use Rattle.std.specs.List.{flat_map}
use Rattle.cnf_theory.specs.Literals.{Literal, Clause, integers}
use Rattle.cnf_theory.specs.Counter.{from}
use Rattle.answers.proofs.Filling.{integers_append}

joined_push : (f : ℕ → List Clause) (a n : ℕ) → flat_map f (from a (suc n)) ≡ flat_map f (from a n) ++ f (a + n)
joined_push f a zero = append-nil (f a) ∙ ap f (sym (add-zero a))
joined_push f a (suc n) = ap (λ r. f a ++ r) (joined_push f (suc a) n ∙ ap (λ m. flat_map f (from (suc a) n) ++ f m) (let e : suc a + n ≡ a + suc n = omega arith in e)) ∙ sym (append_assoc (f a) _ _)

joined_more : (f : ℕ → List Clause) (n : ℕ) → flat_map f (from 1 (n + 1)) ≡ flat_map f (from 1 n) ++ f (n + 1)
joined_more f n = ap (λ m. flat_map f (from 1 m)) (add-one n) ∙ joined_push f 1 n ∙ ap (λ m. flat_map f (from 1 n) ++ f m) (let e : 1 + n ≡ n + 1 = omega arith in e)

module _ {K : Type 0} (took : K → List (List ℤ) → K → Type 0) (both : (s t u : K) (a b : List (List ℤ)) → took s a t → took t b u → took s (a ++ b) u) where
  pub wrote_both : (s t u : K) (a b : List Clause) → took s (integers a) t → took t (integers b) u → took s (integers (a ++ b)) u
  wrote_both s t u a b x y = subst (λ (cs : List (List ℤ)). took s cs u) (sym (integers_append a b)) (both s t u (integers a) (integers b) x y)

  pub wrote_as : (s t : K) (a b : List Clause) → a ≡ b → took s (integers a) t → took s (integers b) t
  wrote_as s t a b e x = subst (λ (cs : List Clause). took s (integers cs) t) e x

  -- one more of the pieces f 1, f 2, ..
  pub wrote_more : (s t u : K) (f : ℕ → List Clause) (n : ℕ) → took s (integers (flat_map f (from 1 n))) t → took t (integers (f (n + 1))) u → took s (integers (flat_map f (from 1 (n + 1)))) u
  wrote_more s t u f n x y = wrote_as s u _ _ (sym (joined_more f n)) (wrote_both s t u _ _ x y)

  pub one_is : (s t : K) (x y : Literal) → took s (integers ((x ∷ []) ∷ [])) t → x ≡ y → took s (integers ((y ∷ []) ∷ [])) t
  one_is s t x y h e = rw (sym e) h

  pub third_is : (s t : K) (x y z z' : Literal) → took s (integers ((x ∷ y ∷ z ∷ []) ∷ [])) t → z ≡ z' → took s (integers ((x ∷ y ∷ z' ∷ []) ∷ [])) t
  third_is s t x y z z' h e = rw (sym e) h

  pub four : (s t u v w : K) (a b c d : List ℤ) → took s (a ∷ []) t → took t (b ∷ []) u → took u (c ∷ []) v → took v (d ∷ []) w → took s (a ∷ b ∷ c ∷ d ∷ []) w
  four s t u v w a b c d p q r x = both s t w (a ∷ []) _ p (both t u w (b ∷ []) _ q (both u v w (c ∷ []) _ r x))
