-- Reading clauses out of a list, and clauses as implications.
use Rattle.std.proofs.Common.{◌≡◌, ℕ, zero, suc, ◌+◌, ◌<◌, ◌≤◌, Bool, true, false, not, ◌||◌, List, [], ◌∷◌, ◌++◌, sym, refl, ap, subst, ⊎_elim, arith}
use mathlib.Core.Bool.{false≢true}
use Rattle.std.specs.List.{flat_map}
use Rattle.std.proofs.lemmas.Bool.{cases_lt}
use Rattle.cnf_theory.specs.Literals.{Row, Clause, true_in, signed, Holds}
use Rattle.cnf_theory.specs.Counter.{from}

pub holds_left : (ρ : Row) (xs ys : List Clause) → Holds ρ (xs ++ ys) → Holds ρ xs
holds_left ρ [] ys h = tt
holds_left ρ (x ∷ xs) ys h = (h.0, holds_left ρ xs ys h.1)

pub holds_right : (ρ : Row) (xs ys : List Clause) → Holds ρ (xs ++ ys) → Holds ρ ys
holds_right ρ [] ys h = h
holds_right ρ (x ∷ xs) ys h = holds_right ρ xs ys h.1

pub holds_both : (ρ : Row) (xs ys : List Clause) → Holds ρ xs → Holds ρ ys → Holds ρ (xs ++ ys)
holds_both ρ [] ys h k = k
holds_both ρ (x ∷ xs) ys h k = (h.0, holds_both ρ xs ys h.1 k)

pub holds_at : (ρ : Row) (f : ℕ → List Clause) (a n : ℕ) → Holds ρ (flat_map f (from a n)) → (k : ℕ) → a ≤ k → k < a + n → Holds ρ (f k)
holds_at ρ f a zero h k le lt = absurd (omega arith)
holds_at ρ f a (suc n) h k le lt =
    ⊎_elim
    (λ more. holds_at ρ f (suc a) n (holds_right ρ (f a) _ h) k more (omega arith))
    (λ here. let e : a ≡ k = omega arith in subst (λ (x : ℕ). Holds ρ (f x)) e (holds_left ρ (f a) _ h))
    (cases_lt a k)

pub holds_each : (ρ : Row) (f : ℕ → List Clause) (a n : ℕ) → ((k : ℕ) → a ≤ k → k < a + n → Holds ρ (f k)) → Holds ρ (flat_map f (from a n))
holds_each ρ f a zero h = tt
holds_each ρ f a (suc n) h = holds_both ρ (f a) _ (h a (omega arith) (omega arith)) (holds_each ρ f (suc a) n (λ k le lt. h k (omega arith) (omega arith)))

-- ── a clause of two or three literals as an implication ──
pub implies : (a b : Bool) → not a || (b || false) ≡ true → a ≡ true → b ≡ true
implies true true h e = refl
implies true false h e = h
implies false b h e = absurd (false≢true e)

pub implies_both : (a b c : Bool) → not a || (not b || (c || false)) ≡ true → a ≡ true → b ≡ true → c ≡ true
implies_both true b c h e f = implies b c h f
implies_both false b c h e f = absurd (false≢true e)

pub from_implies : (a b : Bool) → (a ≡ true → b ≡ true) → not a || (b || false) ≡ true
from_implies true true f = refl
from_implies true false f = f refl
from_implies false b f = refl

pub from_implies_both : (a b c : Bool) → (a ≡ true → b ≡ true → c ≡ true) → not a || (not b || (c || false)) ≡ true
from_implies_both true b c f = from_implies b c (f refl)
from_implies_both false b c f = refl

-- ── literals ──
not_not : (b : Bool) → b ≡ not (not b)
not_not true = refl
not_not false = refl

pub sign_turned : (ρ : Row) (b : Bool) (v : ℕ) → true_in ρ (signed (not b) v) ≡ not (true_in ρ (signed b v))
sign_turned ρ true v = refl
sign_turned ρ false v = not_not (ρ v)

-- the clause of one literal says which value its variable has
pub unit_value : (ρ : Row) (b : Bool) (v : ℕ) → true_in ρ (signed b v) || false ≡ true → b ≡ ρ v
unit_value ρ true v e = go (ρ v) e
  where
    go : (x : Bool) → x || false ≡ true → true ≡ x
    go true e = refl
    go false e = sym e
unit_value ρ false v e = go (ρ v) e
  where
    go : (x : Bool) → not x || false ≡ true → false ≡ x
    go true e = e
    go false e = refl

pub value_unit : (ρ : Row) (b : Bool) (v : ℕ) → b ≡ ρ v → true_in ρ (signed b v) || false ≡ true
value_unit ρ true v e = ap (λ x. x || false) (sym e)
value_unit ρ false v e = ap (λ x. not x || false) (sym e)
