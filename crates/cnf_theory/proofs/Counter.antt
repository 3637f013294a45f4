-- The counter's clauses hold just where the counts are reached, and its limit where few enough gates are marked.
use Rattle.std.proofs.Common.{◌≡◌, ℕ, zero, suc, ◌<◌, ◌≤◌, Bool, true, false, cond, not, ◌||◌, leb, ◌++◌, sym, refl, ap, ◌∙◌, ⊎_elim, le_trans, arith}
use mathlib.Core.Bool.{false≢true}
use Rattle.std.proofs.lemmas.Bool.{cases_lt, le-leb, leb-true}
use Rattle.diagnosis.specs.Marked.{count}
use Rattle.cnf_theory.specs.Literals.{Row, Holds}
use Rattle.cnf_theory.specs.Variables.{count_variable}
use Rattle.cnf_theory.specs.Counter.{carry, step, count_at, counter, limit}
use Rattle.cnf_theory.proofs.Clauses.{holds_at, holds_each, implies, implies_both, from_implies, from_implies_both}

-- only the marks of the gates that are there count
pub count_same : (s r : Row) (g : ℕ) → ((i : ℕ) → 1 ≤ i → i ≤ g → s i ≡ r i) → count s g ≡ count r g
count_same s r zero e = refl
count_same s r (suc g) e =
    let n = count_same s r g (λ i a b. e i a (omega arith)) in
    let m = e (suc g) (omega arith) (omega arith) in
    λ i. cond (m i) (suc (n i)) (n i)

module _ (G N : ℕ) (ρ : Row) (h : Holds ρ (counter G N)) where
  at : (g k : ℕ) → 1 ≤ g → g ≤ G → 1 ≤ k → k ≤ suc N → Holds ρ (carry G N g k ++ step G N g k)
  at g k g1 gG k1 kN = holds_at ρ (λ j. carry G N g j ++ step G N g j) 1 (suc N) (holds_at ρ (count_at G N) 1 G h g g1 (omega arith)) k k1 (omega arith)

  -- from one gate to the next, by the mark of the next
  onward : (g k : ℕ) (b : Bool) → ρ (suc g) ≡ b → suc g ≤ G → k ≤ N → k < cond b (suc (count ρ g)) (count ρ g) → ((j : ℕ) → j ≤ N → j < count ρ g → ρ (count_variable G N g (suc j)) ≡ true) → ρ (count_variable G N (suc g) (suc k)) ≡ true
  onward zero zero true e gG kN lt ih = implies _ _ (at 1 1 (omega arith) gG (omega arith) (omega arith)).0 e
  onward zero (suc k) true e gG kN lt ih = absurd (omega arith)
  onward zero k false e gG kN lt ih = absurd (omega arith)
  onward (suc g) zero true e gG kN lt ih = implies _ _ (at (suc (suc g)) 1 (omega arith) gG (omega arith) (omega arith)).1.0 e
  onward (suc g) (suc k) true e gG kN lt ih = implies_both _ _ _ (at (suc (suc g)) (suc (suc k)) (omega arith) gG (omega arith) (omega arith)).1.0 e (ih k (omega arith) (omega arith))
  onward (suc g) k false e gG kN lt ih = implies _ _ (at (suc (suc g)) (suc k) (omega arith) gG (omega arith) (omega arith)).0 (ih k kN lt)

  -- a count that the marks reach is reached in the row
  pub reached : (g k : ℕ) → g ≤ G → k ≤ N → k < count ρ g → ρ (count_variable G N g (suc k)) ≡ true
  reached zero k gG kN lt = absurd (omega arith)
  reached (suc g) k gG kN lt = onward g k (ρ (suc g)) refl gG kN lt (λ j jN jlt. reached g j (omega arith) jN jlt)

  -- so a count that is not reached in the row bounds the marks
  pub not_reached : (k : ℕ) → k ≤ N → ρ (count_variable G N G (suc k)) ≡ false → count ρ G ≤ k
  not_reached k kN off = ⊎_elim (λ (over : k < count ρ G). absurd (false≢true (sym off ∙ reached G k (omega arith) kN over))) (λ fine. fine) (cases_lt k (count ρ G))

pub limit_off : (G N k : ℕ) (ρ : Row) → 1 ≤ G → Holds ρ (limit G N k) → ρ (count_variable G N G (suc k)) ≡ false
limit_off zero N k ρ some l = absurd (omega arith)
limit_off (suc h) N k ρ some l = off _ l.0
  where
    off : (b : Bool) → not b || false ≡ true → b ≡ false
    off true e = sym e
    off false e = refl

pub off_limit : (G N k : ℕ) (ρ : Row) → ρ (count_variable G N G (suc k)) ≡ false → Holds ρ (limit G N k)
off_limit zero N k ρ e = tt
off_limit (suc h) N k ρ e = (ap (λ b. not b || false) e, tt)

pub at_most : (G N : ℕ) (ρ : Row) → Holds ρ (counter G N) → Holds ρ (limit G N N) → count ρ G ≤ N
at_most zero N ρ h l = omega arith
at_most (suc g) N ρ h l = not_reached (suc g) N ρ h N (omega arith) (limit_off (suc g) N N ρ (omega arith) l)

-- ── the other way: a row whose counts are those of its marks ──
pub counted : (G N : ℕ) (ρ : Row) → ((g k : ℕ) → g ≤ G → 1 ≤ k → k ≤ suc N → 1 ≤ g → ρ (count_variable G N g k) ≡ leb k (count ρ g)) → Holds ρ (counter G N)
counted G N ρ r = holds_each ρ (count_at G N) 1 G (λ g g1 gG. holds_each ρ (λ j. carry G N g j ++ step G N g j) 1 (suc N) (λ k k1 kN. one g k g1 (omega arith) k1 (omega arith)))
  where
    grows : (g : ℕ) (b : Bool) → count ρ g ≤ cond b (suc (count ρ g)) (count ρ g)
    grows g true = omega arith
    grows g false = omega arith

    by-mark : (g k : ℕ) (b : Bool) → b ≡ true → k ≤ count ρ g → suc k ≤ cond b (suc (count ρ g)) (count ρ g)
    by-mark g k true e l = omega arith
    by-mark g k false e l = absurd (false≢true e)

    one : (g k : ℕ) → 1 ≤ g → g ≤ G → 1 ≤ k → k ≤ suc N → Holds ρ (carry G N g k ++ step G N g k)
    one zero k g1 gG k1 kN = absurd (omega arith)
    one (suc zero) zero g1 gG k1 kN = absurd (omega arith)
    one (suc zero) (suc zero) g1 gG k1 kN = (from_implies _ _ (λ e. r 1 1 gG k1 kN g1 ∙ le-leb 1 _ (by-mark 0 0 _ e (omega arith))), tt)
    one (suc zero) (suc (suc k)) g1 gG k1 kN = tt
    one (suc (suc g)) zero g1 gG k1 kN = absurd (omega arith)
    one (suc (suc g)) (suc zero) g1 gG k1 kN = (
      from_implies _ _ (λ e. r (suc (suc g)) 1 gG k1 kN g1 ∙ le-leb 1 _ (le_trans (leb-true 1 _ (sym (r (suc g) 1 (omega arith) k1 kN (omega arith)) ∙ e)) (grows (suc g) _))),
      (from_implies _ _ (λ e. r (suc (suc g)) 1 gG k1 kN g1 ∙ le-leb 1 _ (by-mark (suc g) 0 _ e (omega arith))), tt),
    )
    one (suc (suc g)) (suc (suc k)) g1 gG k1 kN = (
      from_implies _ _ (λ e. r (suc (suc g)) (suc (suc k)) gG k1 kN g1 ∙ le-leb (suc (suc k)) _ (le_trans (leb-true (suc (suc k)) _ (sym (r (suc g) (suc (suc k)) (omega arith) k1 kN (omega arith)) ∙ e)) (grows (suc g) _))),
      (from_implies_both _ _ _ (λ e f. r (suc (suc g)) (suc (suc k)) gG k1 kN g1 ∙ le-leb (suc (suc k)) _ (by-mark (suc g) (suc k) _ e (leb-true (suc k) _ (sym (r (suc g) (suc k) (omega arith) (omega arith) (omega arith) (omega arith)) ∙ f)))), tt),
    )
