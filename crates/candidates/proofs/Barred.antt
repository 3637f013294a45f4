-- The barring clauses hold in a row just if the row leaves a gate of each set given unmarked.
use Rattle.std.proofs.Common.{◌≡◌, ℕ, true, false, not, eqb, ◌⊎◌, List, [], ◌∷◌, map, refl, ap, ◌∙◌, inl, inr, ⊎_elim}
use mathlib.Core.Bool.{false≢true}
use Rattle.std.proofs.lemmas.Bool.{both_ways, cases_Bool, eqb-true, not-true, not_from_false, or_cases, or_left, or_right}
use Rattle.diagnosis.specs.Sets.{member}
use Rattle.diagnosis.specs.Order.{In}
use Rattle.diagnosis.proofs.Subsets.{member_first}
use Rattle.cnf_theory.specs.Literals.{Row, some_true_in, Holds}
use Rattle.candidates.specs.Added.{barring}

-- a row marks each gate of a set
abbrev pub Covers : Row → List ℕ → Type 0
Covers ρ D = (g : ℕ) → member D g ≡ true → ρ g ≡ true

-- ── one set ──
pub barred_unmarked : (ρ : Row) (D : List ℕ) → some_true_in ρ (barring D) ≡ true → (g : ℕ) × (member D g ≡ true) × (ρ g ≡ false)
barred_unmarked ρ [] e = absurd (false≢true e)
barred_unmarked ρ (x ∷ D) e = ⊎_elim (λ n. (x, member_first x D, not-true _ n)) (λ r. let (g, m, f) = barred_unmarked ρ D r in (g, or_right (eqb g x) _ m, f)) (or_cases (not (ρ x)) _ e)

pub barred_or_covered : (ρ : Row) (D : List ℕ) → (some_true_in ρ (barring D) ≡ true) ⊎ Covers ρ D
barred_or_covered ρ [] = inr (λ g m. absurd (false≢true m))
barred_or_covered ρ (x ∷ D) =
    ⊎_elim
    (λ t. ⊎_elim (λ b. inl (or_right (not (ρ x)) _ b)) (λ all. inr (λ g m. ⊎_elim (λ q. ap ρ (eqb-true g x q) ∙ t) (λ r. all g r) (or_cases (eqb g x) _ m))) (barred_or_covered ρ D))
    (λ f. inl (or_left _ _ (not_from_false (ρ x) f)))
    (cases_Bool (ρ x))

-- ── the sets given ──
pub barred_none_covered : (ρ : Row) (given : List (List ℕ)) → Holds ρ (map barring given) → (D : List ℕ) → In D given → Covers ρ D → ⊥
barred_none_covered ρ [] h D d all = d
barred_none_covered ρ (E ∷ given) h D d all =
    ⊎_elim
    (λ e. let (g, m, f) = barred_unmarked ρ E h.0 in both_ways (ρ g) f (all g (ap (λ S. member S g) e ∙ m)))
    (λ r. barred_none_covered ρ given h.1 D r all)
    d

pub none_covered_barred : (ρ : Row) (given : List (List ℕ)) → ((D : List ℕ) → In D given → Covers ρ D → ⊥) → Holds ρ (map barring given)
none_covered_barred ρ [] none = tt
none_covered_barred ρ (E ∷ given) none = (⊎_elim (λ b. b) (λ all. absurd (none E (inl refl) all)) (barred_or_covered ρ E), none_covered_barred ρ given (λ D d. none D (inr d)))
