-- How many clauses the counter has.
use Rattle.std.proofs.Common.{◌≡◌, ℕ, zero, suc, ◌+◌, ◌*◌, ◌≤◌, List, ◌++◌, length, refl, ap, ◌∙◌, suc-mul, arith, length-append}
use Rattle.std.specs.List.{flat_map}
use Rattle.cnf_theory.specs.Literals.{Clause}
use Rattle.cnf_theory.specs.Counter.{from, carry, step, count_at, counter}

-- as many for each of n numbers
same_each : (f : ℕ → List Clause) (b a n : ℕ) → ((k : ℕ) → a ≤ k → length (f k) ≡ b) → length (flat_map f (from a n)) ≡ n * b
same_each f b a zero h = omega arith
same_each f b a (suc n) h =
    let here = h a (omega arith) in
    let rest = same_each f b (suc a) n (λ k le. h k (omega arith)) in
    let e = length-append (f a) (flat_map f (from (suc a) n)) in
    let s = suc-mul n b in
    omega arith

pub first_gate : (G N : ℕ) → length (count_at G N 1) ≡ 1
first_gate G N = ap suc (same_each (λ k. carry G N 1 k ++ step G N 1 k) 0 2 N none ∙ (let e : N * 0 ≡ 0 = omega arith in e))
  where
    none : (k : ℕ) → 2 ≤ k → length (carry G N 1 k ++ step G N 1 k) ≡ 0
    none zero le = absurd (omega arith)
    none (suc zero) le = absurd (omega arith)
    none (suc (suc k)) le = refl

pub later_gate : (G N g : ℕ) → 2 ≤ g → length (count_at G N g) ≡ suc N * 2
later_gate G N zero le = absurd (omega arith)
later_gate G N (suc zero) le = absurd (omega arith)
later_gate G N (suc (suc h)) le = same_each (λ k. carry G N (suc (suc h)) k ++ step G N (suc (suc h)) k) 2 1 (suc N) two
  where
    two : (k : ℕ) → 1 ≤ k → length (carry G N (suc (suc h)) k ++ step G N (suc (suc h)) k) ≡ 2
    two zero le = absurd (omega arith)
    two (suc zero) le = refl
    two (suc (suc k)) le = refl

pub counter_length : (G N g : ℕ) → G ≡ suc g → length (counter G N) ≡ 1 + g * (suc N * 2)
counter_length zero N g e = absurd (omega arith)
counter_length (suc h) N g e =
    let G = suc h in
    let same : h ≡ g = omega arith in
    length-append (count_at G N 1) (flat_map (count_at G N) (from 2 h))
    ∙ (λ j. first_gate G N j + same_each (count_at G N) (suc N * 2) 2 h (later_gate G N) j)
    ∙ ap (λ k. 1 + k * (suc N * 2)) same
