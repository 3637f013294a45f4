-- Whether a solver is large enough, by what was weighed.
use Rattle.std.proofs.Common.{◌≡◌, ℕ, ◌+◌, ◌<◌, ◌≤◌, true, false, leb, is_some, Some, None, Option, List, map, ℤ, sym, subst, subst₂, ⊎_elim, arith}
use Rattle.std.proofs.lemmas.Bool.{and_parts, and_from, and_left, cases_Bool, leb-true, le-leb, lt-leb}
use Rattle.circuit.specs.Circuits.{Circuit}
use Rattle.circuit.specs.Tests.{Test}
use Rattle.solver.specs.Meaning.{Sizes}
use Rattle.cnf_theory.specs.Literals.{integers}
use Rattle.cnf_theory.specs.Variables.{variables}
use Rattle.cnf_theory.specs.Sizes.{prices, longest}
use Rattle.cnf_theory.specs.Formula.{formula}
use Rattle.answers.proofs.Filling.{prices_handed, longest_handed, integers_append}
use Rattle.candidates.specs.Added.{barring, added}
use Rattle.candidates.specs.Enough.{enough}
use Rattle.lister.specs.declared.scale.Scale.{Scale}
use Rattle.lister.specs.Weighed.{Left, Weighed}
use Rattle.lister.specs.WeighedLaws.{weighed_both}

module _ (c : Circuit) (ts : List Test) (N : ℕ) (given : List (List ℕ)) (z : Sizes) where
  pub few_variables : z.capacity < variables c ts N → false ≡ enough c ts N given z
  few_variables l = sym (and_left (leb (variables c ts N) z.capacity) _ (lt-leb _ _ l))

  pub enough_parts : enough c ts N given z ≡ true → (variables c ts N ≤ z.capacity) × (longest (added c ts N given) ≤ z.width) × (prices (added c ts N given) ≤ z.full)
  enough_parts e =
      let (v, rest) = and_parts (leb (variables c ts N) z.capacity) _ e in
      let (w, p) = and_parts (leb (longest (added c ts N given)) z.width) _ rest in
      (leb-true _ _ v, leb-true _ _ w, leb-true _ _ p)

  -- room is left on the scale exactly if the longest clause and the prices are within the solver's
  pub weighed_enough : (s t u : Scale) → s.width ≡ z.width → s.room ≡ Some z.full → variables c ts N ≤ z.capacity → Weighed s (integers (formula c ts N)) t → Weighed t (integers (map barring given)) u → is_some u.room ≡ enough c ts N given z
  weighed_enough s t u w r v a b =
      let cs = added c ts N given in
      let both : Weighed s (integers cs) u = subst (λ (xs : List (List ℤ)). Weighed s xs u) (sym (integers_append (formula c ts N) (map barring given))) (weighed_both s t u (integers (formula c ts N)) (integers (map barring given)) a b) in
      go u.room (subst₂ (λ (x : ℕ) (o : Option ℕ). Left x o (integers cs) u.room) w r both.left)
    where
      go : (o : Option ℕ) → Left z.width (Some z.full) (integers (added c ts N given)) o → is_some o ≡ enough c ts N given z
      go (Some left) l =
          let cs = added c ts N given in
          let p = prices_handed cs in
          let q = longest_handed cs in
          let l0 = l.0 in
          let e : z.full ≡ left + prices (integers cs) = (let i : ◌≡◌ {A = Option ℕ} (Some z.full) (Some (left + prices (integers cs))) = l.1 in cc) in
          let wide : longest cs ≤ z.width = omega arith in
          let cost : prices cs ≤ z.full = omega arith in
          sym (and_from _ _ (le-leb _ _ v) (and_from _ _ (le-leb _ _ wide) (le-leb _ _ cost)))
      go None l =
          ⊎_elim
          (λ (e : enough c ts N given z ≡ true).
          let cs = added c ts N given in
          let p = prices_handed cs in
          let q = longest_handed cs in
          let (_, w1, p1) = enough_parts e in
          absurd (l (omega arith, omega arith)))
          (λ e. sym e)
          (cases_Bool (enough c ts N given z))
