-- The search for forced values finds some wherever there are any.
use Rattle.std.proofs.Common.{◌≡◌, ℕ, Bool, true, false, eqb, ◌↔◌, List, [], ◌∷◌, map, sym, refl, ap, ◌∙◌, inl, ⊎_elim}
use mathlib.Core.Bool.{false≢true}
use Rattle.std.proofs.lemmas.Bool.{eqb-true, cases_Bool, cond-true, cond-false, or_cases, and_parts, and_from}
use Rattle.circuit.specs.Circuits.{Circuit}
use Rattle.circuit.specs.Tests.{Test}
use Rattle.diagnosis.specs.Sets.{member}
use Rattle.diagnosis.specs.Explains.{Values, brings_out, ExplainsSet}
use Rattle.diagnosis.specs.Order.{In}
use Rattle.diagnosis.specs.FullList.{force, choices, explains_case}
use Rattle.diagnosis.specs.ExplainingLaws.{SearchDecides}
use Rattle.diagnosis.proofs.Members.{in_front, in_back, in_map, any_at, any_from}
use Rattle.diagnosis.proofs.Simulated.{brings_forced}

-- any forced values are, on the set, those of one of its choices
pub chosen : (S : List ℕ) (w : Values) → (v : Values) × In v (choices S) × ((g : ℕ) → member S g ≡ true → w g ≡ v g)
chosen [] w = (λ _. false, inl refl, λ g e. absurd (false≢true e))
chosen (x ∷ S) w = let (v, i, same) = chosen S w in (force x (w x) v, listed v i (w x), λ g m. at v same g m)
  where
    listed : (v : Values) → In v (choices S) → (b : Bool) → In (force x b v) (choices (x ∷ S))
    listed v i false = in_front (force x false v) (map (force x false) (choices S)) (map (force x true) (choices S)) (in_map (force x false) v (choices S) i)
    listed v i true = in_back (force x true v) (map (force x false) (choices S)) (map (force x true) (choices S)) (in_map (force x true) v (choices S) i)

    at : (v : Values) → ((g : ℕ) → member S g ≡ true → w g ≡ v g) → (g : ℕ) → member (x ∷ S) g ≡ true → w g ≡ force x (w x) v g
    at v same g m =
        ⊎_elim
        (λ t. ap w (eqb-true g x t) ∙ sym (cond-true (eqb g x) (w x) (v g) t))
        (λ f. same g (⊎_elim (λ u. absurd (false≢true (sym f ∙ u))) (λ u. u) (or_cases (eqb g x) _ m)) ∙ sym (cond-false (eqb g x) (w x) (v g) f))
        (cases_Bool (eqb g x))

pub search_decides : SearchDecides
search_decides c S t = (
  λ e. let (w, i, out) = any_at (λ w. brings_out c (member S) w t) (choices S) e in (w, out),
  λ x. let (w, out) = x in let (v, i, same) = chosen S w in any_from (λ w. brings_out c (member S) w t) (choices S) v i (brings_forced c (member S) w v t same out),
)

pub case_decides : (c : Circuit) (ts : List Test) (S : List ℕ) → (explains_case c ts S ≡ true) ↔ ExplainsSet c ts S
case_decides c [] S = (λ e. tt, λ x. refl)
case_decides c (t ∷ ts) S = (
  λ e. let (a, b) = and_parts _ _ e in ((search_decides c S t).0 a, (case_decides c ts S).0 b),
  λ x. and_from _ _ ((search_decides c S t).1 x.0) ((case_decides c ts S).1 x.1),
)
