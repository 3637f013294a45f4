-- A row with the fewest marks, lowest from the first gate on, marks the first candidate.
use Rattle.std.proofs.Common.{◌≡◌, ℕ, zero, suc, ◌<◌, ◌≤◌, List, length, sym, refl, ◌∙◌, ⊎_elim, arith}
use Rattle.std.proofs.lemmas.Bool.{cases_lt}
use Rattle.diagnosis.specs.Sets.{member, IsSet}
use Rattle.diagnosis.specs.Order.{Before}
use Rattle.diagnosis.specs.Marked.{marked}
use Rattle.diagnosis.specs.Next.{CandidateFor}
use Rattle.diagnosis.proofs.Subsets.{member_range}
use Rattle.diagnosis.proofs.Marked.{marked_member}
use Rattle.diagnosis.proofs.Nexts.{lower_first}
use Rattle.candidates.specs.CandidateLaws.{LowestRowIsFirst}
use Rattle.candidates.proofs.RowsOfCandidates.{row_marks_candidate, candidate_has_row}

pub lowest_row_is_first : LowestRowIsFirst
lowest_row_is_first c ts N given fine k kN ρ holds off fewest lowest =
    let n = length c.gates in
    let (cand, few) = row_marks_candidate c ts N given fine k kN ρ holds off in
    let size : length (marked ρ n) ≡ k = ⊎_elim (λ (under : length (marked ρ n) < k). absurd (no-smaller k refl _ cand under)) (λ y. omega arith) (cases_lt (length (marked ρ n)) k) in
    (record { candidate = cand; first = none_before (marked ρ n) cand.set (marked_member ρ n) size }, size)
  where
    -- a candidate of fewer gates would have a row with fewer marks
    no-smaller : (m : ℕ) → m ≡ k → (T : List ℕ) → CandidateFor c ts N given T → length T < m → ⊥
    no-smaller zero e T t lt = omega arith
    no-smaller (suc j) e T t lt = let (σ, marks, sat, under) = candidate_has_row c ts N given fine j (omega arith) T t (omega arith) in fewest j e σ sat under

    -- and a lower one of as many gates a row that agrees with this up to a gate, and marks that gate where this does not
    none_before : (S : List ℕ) → IsSet (length c.gates) S → ((g : ℕ) → 1 ≤ g → g ≤ length c.gates → member S g ≡ ρ g) → length S ≡ k → (T : List ℕ) → CandidateFor c ts N given T → Before T S → ⊥
    none_before S set own size T t before =
        let n = length c.gates in
        ⊎_elim
        (λ smaller. no-smaller k refl T t (omega arith))
        (λ r.
        let (g, on, out, same) = lower_first 1 n T S t.set set r.1 in
        let (low, high) = member_range 1 n T t.set g on in
        let (σ, marks, sat, under) = candidate_has_row c ts N given fine k kN T t (omega (arith, r.0)) in
        lowest g low high (sym (own g low high) ∙ out) σ sat under (λ i a l. marks i a (omega arith) ∙ same i l ∙ own i a (omega arith)) (marks g low high ∙ on))
        before
