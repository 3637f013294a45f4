-- A row of the clauses added has the marks of a candidate, and each candidate has such a row.
use Rattle.std.proofs.Common.{◌≡◌, ℕ, ◌≤◌, false, List, [], ◌∷◌, length, sym, ◌∙◌, subst, ⊎_elim, arith}
use Rattle.std.specs.List.{AllByRecursion}
use Rattle.circuit.specs.Circuits.{Circuit}
use Rattle.circuit.specs.Tests.{Test}
use Rattle.diagnosis.specs.Sets.{member, IsSet, Within}
use Rattle.diagnosis.specs.Order.{In}
use Rattle.diagnosis.specs.Marked.{marked}
use Rattle.diagnosis.specs.Next.{CandidateFor}
use Rattle.diagnosis.proofs.Subsets.{member_range}
use Rattle.diagnosis.proofs.Marked.{marked_set, marked_member, set_count}
use Rattle.cnf_theory.specs.Literals.{Row, Holds}
use Rattle.cnf_theory.specs.Formula.{formula}
use Rattle.cnf_theory.specs.FormulaLaws.{MarksJust}
use Rattle.cnf_theory.proofs.Clauses.{holds_left, holds_right, holds_both}
use Rattle.cnf_theory.proofs.Theorem.{counts_to}
use Rattle.candidates.specs.Added.{added}
use Rattle.candidates.specs.CandidateLaws.{last_count, Given, RowsAreCandidates, NoRowNoCandidate}
use Rattle.candidates.proofs.Barred.{Covers, barred_none_covered, none_covered_barred}

pub each_is_set : (n : ℕ) (given : List (List ℕ)) → AllByRecursion (IsSet n) given → (D : List ℕ) → In D given → IsSet n D
each_is_set n [] sets D d = absurd d
each_is_set n (E ∷ given) sets D d = ⊎_elim (λ e. subst (λ (X : List ℕ). IsSet n X) (sym e) sets.0) (λ r. each_is_set n given sets.1 D r) d

-- ── of a row with just the marks of a set ──
pub within_covered : (n : ℕ) (S D : List ℕ) (ρ : Row) → MarksJust n (member S) ρ → IsSet n D → Within D S → Covers ρ D
within_covered n S D ρ marks set within g m = let (low, high) = member_range 1 n D set g m in marks g low high ∙ within g m

pub covered_within : (n : ℕ) (S D : List ℕ) (ρ : Row) → MarksJust n (member S) ρ → IsSet n D → Covers ρ D → Within D S
covered_within n S D ρ marks set covers g m = let (low, high) = member_range 1 n D set g m in sym (marks g low high) ∙ covers g m

pub rows_are_candidates : RowsAreCandidates
rows_are_candidates c ts N given fine k kN S set =
    let n = length c.gates in
    let first = formula c ts N in
    let size = set_count n S set in
    let sets = each_is_set n given fine.sets in
    let says = counts_to c ts N k (member S) fine.circuit fine.tests kN in (
      λ r.
          let (ρ, marks, holds, off) = r in
          let (few, explains) = says.0 (ρ, marks, holds_left ρ first _ holds, off) in
          let fresh : (D : List ℕ) → In D given → Within D S → ⊥ = λ D d w. barred_none_covered ρ given (holds_right ρ first _ holds) D d (within_covered n S D ρ marks (sets D d) w) in
          (record { set = set; few = omega arith; explains = explains; fresh = fresh }, omega arith),
      λ y.
          let (cand, few) = y in
          let (ρ, marks, holds, off) = says.1 (omega arith, cand.explains) in
          let barred = none_covered_barred ρ given (λ D d all. cand.fresh D d (covered_within n S D ρ marks (sets D d) all)) in
          (ρ, marks, holds_both ρ first _ holds barred, off),
    )

-- the gates that a row marks are a candidate
pub row_marks_candidate :
    (c : Circuit) (ts : List Test) (N : ℕ) (given : List (List ℕ)) → Given c ts given → (k : ℕ) → k ≤ N → (ρ : Row) → Holds ρ (added c ts N given) → ρ (last_count c N k) ≡ false
    → CandidateFor c ts N given (marked ρ (length c.gates)) × (length (marked ρ (length c.gates)) ≤ k)
row_marks_candidate c ts N given fine k kN ρ holds off =
    let n = length c.gates in
    (rows_are_candidates c ts N given fine k kN (marked ρ n) (marked_set ρ n)).0 (ρ, λ g low high. sym (marked_member ρ n g low high), holds, off)

-- a candidate of at most k gates has a row with its marks
pub candidate_has_row :
    (c : Circuit) (ts : List Test) (N : ℕ) (given : List (List ℕ)) → Given c ts given → (k : ℕ) → k ≤ N → (S : List ℕ) → CandidateFor c ts N given S → length S ≤ k
    → (ρ : Row) × MarksJust (length c.gates) (member S) ρ × Holds ρ (added c ts N given) × (ρ (last_count c N k) ≡ false)
candidate_has_row c ts N given fine k kN S cand few = (rows_are_candidates c ts N given fine k kN S cand.set).1 (cand, few)

pub no_row_no_candidate : NoRowNoCandidate
no_row_no_candidate c ts N given fine none S cand = let (ρ, marks, holds, off) = candidate_has_row c ts N given fine N (omega arith) S cand cand.few in none ρ holds off
