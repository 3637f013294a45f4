-- From what the rows of a solver say to the next set.
use Rattle.std.proofs.Common.{◌≡◌, ℕ, zero, suc, ◌+◌, ◌*◌, ◌<◌, ◌≤◌, false, List, [], ◌∷◌, length, get_or, Some, None, Option, sym, ap, ◌∙◌, subst, suc-mul, mul-suc, arith}
use Rattle.std.specs.List.{slice_get}
use Rattle.circuit.specs.Circuits.{Circuit}
use Rattle.circuit.specs.Tests.{Test}
use Rattle.diagnosis.specs.Sets.{member, IsSet}
use Rattle.diagnosis.specs.Explains.{brings_out}
use Rattle.diagnosis.specs.Marked.{marked}
use Rattle.diagnosis.specs.Readings.{reading, forced_by}
use Rattle.solver.specs.Rows.{Row}
use Rattle.solver.specs.Meaning.{Meaning, Sizes}
use Rattle.cnf_theory.specs.Variables.{count_variable, base, forced_variable, variables}
use Rattle.cnf_theory.specs.Formula.{formula}
use Rattle.cnf_theory.proofs.Clauses.{holds_left}
use Rattle.answers.specs.Loaded.{Loaded}
use Rattle.candidates.specs.Added.{added}
use Rattle.candidates.specs.CandidateLaws.{last_count, Given, FirstCandidate}
use Rattle.candidates.proofs.RowsOfCandidates.{row_marks_candidate, no_row_no_candidate}
use Rattle.candidates.proofs.LowestRow.{lowest_row_is_first}
use Rattle.candidates.proofs.ReadingsOfRows.{row_brings_out}
use Rattle.lister.specs.NextSet.{FirstOf, Shows, NextIs}
use Rattle.lister.specs.Readings.{told, BringOutTests}

-- ── the marks and the counts are among the variables ──
pub gates_within : (c : Circuit) (ts : List Test) (N : ℕ) → length c.gates ≤ variables c ts N
gates_within c ts N = let e = mul-suc (length c.gates) (suc N) in omega arith

pub counts_within : (c : Circuit) (ts : List Test) (N : ℕ) → last_count c N N ≤ variables c ts N
counts_within c ts N = go (length c.gates)
  where
    go : (G : ℕ) → count_variable G N G (suc N) ≤ G * suc (suc N) + length ts * (c.inputs + G * 3)
    go zero = omega arith
    go (suc h) = let a = suc-mul h (suc N) in let b = mul-suc (suc h) (suc N) in omega arith

nth_within : (ts : List Test) (t : ℕ) (test : Test) → slice_get ts t ≡ Some test → t < length ts
nth_within [] t test e = let z : ◌≡◌ {A = ℕ} 0 1 = cc in absurd (omega arith)
nth_within (u ∷ ts) zero test e = omega arith
nth_within (u ∷ ts) (suc t) test e = let l = nth_within ts t test e in omega arith

-- what is known of a solver that was filled: its counts are variables in use, and bound the marks
pub record Counts (m : Meaning) (G N : ℕ) : Type 0 where
  pub counts : count_variable G N G (suc N) ≤ m.vars
  pub gates : G ≤ m.vars
  pub bounded : (k : ℕ) (row : Row) → k ≤ N → m.allowed row → row (count_variable G N G (suc k)) ≡ false → length (marked row G) ≤ k

module _ (c : Circuit) (ts : List Test) (N : ℕ) (given : List (List ℕ)) (fits : Given c ts given) (z : Sizes) (m : Meaning) (ld : Loaded z (variables c ts N) (added c ts N given) m) where
  pub counted : Counts m (length c.gates) N
  counted = record {
    counts = (let l = counts_within c ts N in let v = ld.vars in omega arith);
    gates = (let l = gates_within c ts N in let v = ld.vars in omega arith);
    bounded = λ k row l al off. (row_marks_candidate c ts N given fits k l row (ld.only row al) off).1;
  }

  pub next_is : (o : Option (List ℕ)) (n : Meaning) → FirstOf m (length c.gates) N o n → NextIs c ts N given o n.shown
  next_is None n f = (no_row_no_candidate c ts N given fits (λ σ h off. f.0 σ (ld.each σ h) off), f.1)
  next_is (Some S) n (k, fewest, found) =
      let (first, _) = lowest_row_is_first c ts N given fits k fewest.within found.row (ld.only found.row found.allowed) found.off (λ j e σ h off. fewest.fewer j e σ (ld.each σ h) off) (λ g a b d σ h off ag on. found.low g a b d σ (ld.each σ h) off ag on) in
      (subst (FirstCandidate c ts N given) found.marks first, subst (λ (o : Option Row). Shows (length c.gates) S o) (sym found.shown) found.marks)

  -- the set found is one of the circuit's gates
  pub found_set : (S : List ℕ) (n : Meaning) → FirstOf m (length c.gates) N (Some S) n → IsSet (length c.gates) S
  found_set S n f = (next_is (Some S) n f).0.candidate.set

  -- the values that the row shown forces bring out each test
  pub found_readings : (S : List ℕ) (n : Meaning) (bytes : List ℕ) → FirstOf m (length c.gates) N (Some S) n
      → ((t : ℕ) → t < length ts → get_or bytes t 0 ≡ reading S (λ g. told n.shown (forced_variable (base c N t) c.inputs g)))
      → BringOutTests c ts S bytes
  found_readings S n bytes (k, fewest, found) read t test is =
      let ρ = found.row in
      let all = ld.only ρ found.allowed in
      let byte : get_or bytes t 0 ≡ reading S (λ g. ρ (forced_variable (base c N t) c.inputs g)) = read t (nth_within ts t test is) ∙ ap (λ o. reading S (λ g. told o (forced_variable (base c N t) c.inputs g))) found.shown in
      ap (λ b. brings_out c (member S) (forced_by S b) test) byte ∙ row_brings_out c ts N ρ fits.circuit fits.tests (holds_left ρ (formula c ts N) _ all) S found.marks t test is
