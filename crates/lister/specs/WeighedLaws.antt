-- No clause weighed, and some after others: what a sink owes.
use Rattle.std.specs.Prelude.{◌≡◌, ℕ, ◌+◌, max, List, [], ◌∷◌, ◌++◌, ℤ, Some, None, Option, refl}
use Rattle.std.proofs.Common.{◌∙◌, ap, sym, subst, add-zero, arith}
use Rattle.cnf_theory.specs.Sizes.{prices, longest}
use Rattle.answers.specs.FedLaws.{prices_append}
use Rattle.lister.specs.Weighed.{Left, Weighed}
use Rattle.lister.specs.declared.scale.Scale.{Scale}

longest_append : (a b : List (List ℤ)) → longest (a ++ b) ≡ max (longest a) (longest b)
longest_append [] b = omega arith
longest_append (x ∷ a) b = let e = longest_append a b in omega arith

left_none : (width : ℕ) (room : Option ℕ) → Left width room [] room
left_none width None = tt
left_none width (Some room) = (omega arith, ap Some (sym (add-zero room)))

left_both : (width : ℕ) (r s t : Option ℕ) (a b : List (List ℤ)) → Left width r a s → Left width s b t → Left width r (a ++ b) t
left_both width None None None a b x y = tt
left_both width (Some r) None None a b x y = λ h. let p = prices_append a b in let l = longest_append a b in x (let h0 = h.0 in let h1 = h.1 in (omega arith, omega arith))
left_both width r None (Some t) a b x y = absurd (let e : ◌≡◌ {A = Option ℕ} None (Some (t + prices b)) = y.1 in cc)
left_both width None (Some s) t a b x y = absurd (let e : ◌≡◌ {A = Option ℕ} None (Some (s + prices a)) = x.1 in cc)
left_both width (Some r) (Some s) None a b x y = λ h.
    let p = prices_append a b in
    let l = longest_append a b in
    let e : r ≡ s + prices a = (let q : ◌≡◌ {A = Option ℕ} (Some r) (Some (s + prices a)) = x.1 in cc) in
    y (let h0 = h.0 in let h1 = h.1 in (omega arith, omega arith))
left_both width (Some r) (Some s) (Some t) a b x y =
    let p = prices_append a b in
    let l = longest_append a b in
    let e : r ≡ s + prices a = (let q : ◌≡◌ {A = Option ℕ} (Some r) (Some (s + prices a)) = x.1 in cc) in
    let f : s ≡ t + prices b = (let q : ◌≡◌ {A = Option ℕ} (Some s) (Some (t + prices b)) = y.1 in cc) in
    let x0 = x.0 in
    let y0 = y.0 in
    let sum : r ≡ t + prices (a ++ b) = omega arith in
    (omega arith, ap Some sum)

pub weighed_none : (s : Scale) → Weighed s [] s
weighed_none s = record { width = refl; left = left_none s.width s.room }

pub weighed_both : (s t u : Scale) (a b : List (List ℤ)) → Weighed s a t → Weighed t b u → Weighed s (a ++ b) u
weighed_both s t u a b x y = record {
  width = y.width ∙ x.width;
  left = left_both s.width s.room t.room u.room a b x.left (subst (λ (w : ℕ). Left w t.room b u.room) x.width y.left);
}
