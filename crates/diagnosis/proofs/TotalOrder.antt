-- The order of sets is strict and total.
use Rattle.std.proofs.Common.{◌≡◌, ℕ, ◌⊎◌, List, [], ◌∷◌, length, sym, refl, ◌∙◌, inl, inr, ⊎_elim, arith}
use Rattle.std.proofs.lemmas.Bool.{cases_order}
use Rattle.diagnosis.specs.Order.{Lower, Before}
use Rattle.diagnosis.specs.ListLaws.{OrderStrictTotal}
use Rattle.diagnosis.proofs.Ordered.{before_asymmetric}

lower_transitive : (R S T : List ℕ) → Lower R S → Lower S T → Lower R T
lower_transitive [] S T h k = h
lower_transitive (x ∷ R) [] T h k = absurd h
lower_transitive (x ∷ R) (y ∷ S) [] h k = absurd k
lower_transitive (x ∷ R) (y ∷ S) (z ∷ T) h k =
    ⊎_elim
    (λ lt. inl (⊎_elim (λ gt. omega arith) (λ q. let e = q.0 in omega arith) k))
    (λ r. ⊎_elim (λ gt. inl (let e = r.0 in omega arith)) (λ q. inr (r.0 ∙ q.0, lower_transitive R S T r.1 q.1)) k)
    h

before_transitive : (R S T : List ℕ) → Before R S → Before S T → Before R T
before_transitive R S T h k =
    ⊎_elim
    (λ lt. inl (⊎_elim (λ gt. omega arith) (λ q. let e = q.0 in omega arith) k))
    (λ r. ⊎_elim (λ gt. inl (let e = r.0 in omega arith)) (λ q. inr (r.0 ∙ q.0, lower_transitive R S T r.1 q.1)) k)
    h

lower_total : (S T : List ℕ) → length S ≡ length T → (S ≡ T) ⊎ (Lower S T ⊎ Lower T S)
lower_total [] [] e = inl refl
lower_total [] (y ∷ T) e = absurd (omega arith)
lower_total (x ∷ S) [] e = absurd (omega arith)
lower_total (x ∷ S) (y ∷ T) e =
    ⊎_elim
    (λ same.
    ⊎_elim (λ r. inl (λ i. same i ∷ r i)) (λ r. inr (⊎_elim (λ l. inl (inr (same, l))) (λ l. inr (inr (sym same, l))) r)) (lower_total S T (omega arith)))
    (λ other. inr (⊎_elim (λ lt. inl (inl lt)) (λ gt. inr (inl gt)) other))
    (cases_order x y)

before_total : (S T : List ℕ) → (S ≡ T) ⊎ (Before S T ⊎ Before T S)
before_total S T =
    ⊎_elim
    (λ same. ⊎_elim (λ e. inl e) (λ r. inr (⊎_elim (λ l. inl (inr (same, l))) (λ l. inr (inr (sym same, l))) r)) (lower_total S T same))
    (λ other. inr (⊎_elim (λ lt. inl (inl lt)) (λ gt. inr (inl gt)) other))
    (cases_order (length S) (length T))

pub order_strict_total : OrderStrictTotal
order_strict_total = record { asymmetric = before_asymmetric; transitive = before_transitive; total = before_total }
