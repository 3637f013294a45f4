-- With more gates a set still explains; so a set is minimal as soon as no single gate can be dropped from it.
use Rattle.std.proofs.Common.{◌≡◌, ℕ, suc, Bool, true, false, cond, eqb, ◌⊎◌, ◌↔◌, List, [], ◌∷◌, length, sym, refl, ap, ◌∙◌, subst, inl, inr, ⊎_elim, arith}
use mathlib.Core.Bool.{false≢true}
use Rattle.std.proofs.lemmas.Bool.{eqb-true, eq-eqb, cases_Bool, or_cases, or_left, or_right}
use Rattle.circuit.specs.Circuits.{Circuit}
use Rattle.circuit.specs.Tests.{Test}
use Rattle.diagnosis.specs.Sets.{Marks, member, Ascends, IsSet, Within, without}
use Rattle.diagnosis.specs.Explains.{numbered, values, ExplainsCase, ExplainsSet}
use Rattle.diagnosis.specs.Minimal.{Minimal}
use Rattle.diagnosis.specs.ExplainingLaws.{SupersetsExplain}
use Rattle.diagnosis.specs.ListLaws.{MinimalWhenNoneDrops}
use Rattle.diagnosis.proofs.Simulated.{brings_more}
use Rattle.diagnosis.proofs.Subsets.{ascends_from_lower, within_both}

-- ── more marks ──
pub explains_more : (c : Circuit) (s r : Marks) (ts : List Test) → ((g : ℕ) → s g ≡ true → r g ≡ true) → ExplainsCase c s ts → ExplainsCase c r ts
explains_more c s r [] more x = tt
explains_more c s r (t ∷ ts) more x = ((numbered (values c s x.0.0 t.inputs), brings_more c s r x.0.0 t more x.0.1), explains_more c s r ts more x.1)

pub supersets_explain : SupersetsExplain
supersets_explain c ts S T w x = explains_more c (member S) (member T) ts w x

-- ── a gate dropped ──
without_at : (h : ℕ) (S : List ℕ) → member (without h S) h ≡ true → ⊥
without_at h [] m = false≢true m
without_at h (x ∷ S) m = drop (λ r. without_at h S r) (eqb h x) refl m
  where
    drop : (member (without h S) h ≡ true → ⊥) → (b : Bool) → eqb h x ≡ b → member (cond b (without h S) (x ∷ without h S)) h ≡ true → ⊥
    drop rest true e m = rest m
    drop rest false e m = ⊎_elim (λ t. false≢true (sym e ∙ t)) rest (or_cases (eqb h x) _ m)

without_within : (h : ℕ) (S : List ℕ) → Within (without h S) S
without_within h [] g m = m
without_within h (x ∷ S) g m = keep (λ r. without_within h S g r) (eqb h x) m
  where
    keep : (member (without h S) g ≡ true → member S g ≡ true) → (b : Bool) → member (cond b (without h S) (x ∷ without h S)) g ≡ true → member (x ∷ S) g ≡ true
    keep rest true m = or_right (eqb g x) _ (rest m)
    keep rest false m = ⊎_elim (λ t. or_left _ _ t) (λ r. or_right (eqb g x) _ (rest r)) (or_cases (eqb g x) _ m)

without_keeps : (h : ℕ) (S : List ℕ) (g : ℕ) → (g ≡ h → ⊥) → member S g ≡ true → member (without h S) g ≡ true
without_keeps h [] g other m = m
without_keeps h (x ∷ S) g other m = keep (λ r. without_keeps h S g other r) (eqb h x) refl (or_cases (eqb g x) _ m)
  where
    keep : (member S g ≡ true → member (without h S) g ≡ true) → (b : Bool) → eqb h x ≡ b → (eqb g x ≡ true) ⊎ (member S g ≡ true) → member (cond b (without h S) (x ∷ without h S)) g ≡ true
    keep rest true e m = ⊎_elim (λ t. absurd (other (eqb-true g x t ∙ sym (eqb-true h x e)))) rest m
    keep rest false e m = ⊎_elim (λ t. or_left _ _ t) (λ r. or_right (eqb g x) _ (rest r)) m

without_ascends : (h a n : ℕ) (S : List ℕ) → Ascends a n S → Ascends a n (without h S)
without_ascends h a n [] s = tt
without_ascends h a n (x ∷ S) s = keep (eqb h x) (without_ascends h (suc x) n S s.2)
  where
    keep : (b : Bool) → Ascends (suc x) n (without h S) → Ascends a n (cond b (without h S) (x ∷ without h S))
    keep true r = ascends_from_lower (suc x) a n (without h S) (omega arith) r
    keep false r = (s.0, s.1, r)

-- a set within another has it all, or leaves a gate out
all_or_one_left : (S T : List ℕ) → Within S T ⊎ ((g : ℕ) × (member S g ≡ true) × (member T g ≡ false))
all_or_one_left [] T = inl (λ g m. absurd (false≢true m))
all_or_one_left (x ∷ S) T =
    ⊎_elim
    (λ on.
    ⊎_elim
    (λ w. inl (λ g m. ⊎_elim (λ t. ap (member T) (eqb-true g x t) ∙ on) (λ r. w g r) (or_cases (eqb g x) _ m)))
    (λ l. inr (l.0, or_right (eqb l.0 x) _ l.1, l.2))
    (all_or_one_left S T))
    (λ off. inr (x, or_left _ _ (eq-eqb x x refl), off))
    (cases_Bool (member T x))

-- ── minimal ──
module _ (n : ℕ) (Explaining : List ℕ → Type 0) (more : (S T : List ℕ) → Within S T → Explaining S → Explaining T) where
  pub minimal_when_none_drops_of : (S : List ℕ) → IsSet n S → Minimal n Explaining S ↔ (Explaining S × ((g : ℕ) → member S g ≡ true → Explaining (without g S) → ⊥))
  minimal_when_none_drops_of S s = (
    λ m. (m.0, λ g i x. m.1 (without g S) (without_ascends g 1 n S s) (without_within g S, λ e. without_at g S (subst (λ (X : List ℕ). member X g ≡ true) (sym e) i)) x),
    λ d. (
      d.0,
      λ T t p x.
          ⊎_elim
          (λ all. p.1 (within_both n S T s t p.0 all))
          (λ left. let (g, i, off) = left in d.1 g i (more T (without g S) (λ h m. without_keeps g S h (λ e. false≢true (sym off ∙ subst (λ (k : ℕ). member T k ≡ true) e m)) (p.0 h m)) x))
          (all_or_one_left S T),
    ),
  )

pub minimal_when_none_drops : MinimalWhenNoneDrops
minimal_when_none_drops c ts S s = minimal_when_none_drops_of (length c.gates) (ExplainsSet c ts) (supersets_explain c ts) S s
