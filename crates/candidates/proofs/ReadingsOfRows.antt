-- The values that a row of the formula forces in a test, read as a byte, bring out the test.
use Rattle.std.proofs.Common.{◌≡◌, ℕ, zero, suc, ◌+◌, Bool, true, List, [], ◌∷◌, ◌++◌, length, Some, sym, ap, ◌∙◌, add-zero, add-suc, suc-add, zero-add, arith}
use Rattle.std.specs.List.{slice_get, AllByRecursion}
use Rattle.circuit.specs.Circuits.{Circuit, Sound}
use Rattle.circuit.specs.Tests.{Test, FitsTest}
use Rattle.diagnosis.specs.Sets.{member}
use Rattle.diagnosis.specs.Explains.{brings_out}
use Rattle.diagnosis.proofs.Simulated.{brings_marks}
use Rattle.diagnosis.proofs.Marked.{marked_member}
use Rattle.diagnosis.proofs.ForcedByte.{readings_bring_out}
use Rattle.cnf_theory.specs.Literals.{Row, Holds}
use Rattle.cnf_theory.specs.Variables.{base, forced_variable}
use Rattle.cnf_theory.specs.Counter.{counter, limit}
use Rattle.cnf_theory.specs.Formula.{test_clauses, tests_clauses}
use Rattle.cnf_theory.proofs.Clauses.{holds_left, holds_right}
use Rattle.cnf_theory.proofs.TestSound.{test_brings_out}
use Rattle.candidates.specs.CandidateLaws.{RowBringsOut}

-- what a row forces in test t
abbrev pub forced_in : Circuit → ℕ → Row → ℕ → ℕ → Bool
forced_in c N ρ t g = ρ (forced_variable (base c N t) c.inputs g)

-- the row's own marks and forced values bring out each test, the tests being numbered from n on
pub row_brings_out_from :
    (c : Circuit) (N n : ℕ) (ts : List Test) (ρ : Row) → Sound c → AllByRecursion (FitsTest c) ts → Holds ρ (tests_clauses c N n ts)
    → (t : ℕ) (test : Test) → slice_get ts t ≡ Some test → brings_out c ρ (forced_in c N ρ (n + t)) test ≡ true
row_brings_out_from c N n [] ρ sound fit h t test is = let z : ◌≡◌ {A = ℕ} 0 1 = cc in absurd (omega arith)
row_brings_out_from c N n (u ∷ ts) ρ sound fit h zero test is =
    let same : u ≡ test = cc in
    ap (λ k. brings_out c ρ (forced_in c N ρ k) test) (add-zero n)
    ∙ ap (λ v. brings_out c ρ (forced_in c N ρ n) v) (sym same)
    ∙ test_brings_out c ρ (base c N n) u sound.in_order sound.shown fit.0 (holds_left ρ (test_clauses c (base c N n) u) _ h)
row_brings_out_from c N n (u ∷ ts) ρ sound fit h (suc t) test is =
    ap (λ k. brings_out c ρ (forced_in c N ρ k) test) (add-suc n t ∙ sym (suc-add n t))
    ∙ row_brings_out_from c N (suc n) ts ρ sound fit.1 (holds_right ρ (test_clauses c (base c N n) u) _ h) t test is

pub row_brings_out : RowBringsOut
row_brings_out c ts N ρ sound fit h S marks t test is =
    let n = length c.gates in
    let all = row_brings_out_from c N 0 ts ρ sound fit (holds_right ρ (counter n N ++ limit n N N) _ h) in
    let own = ap (λ k. brings_out c ρ (forced_in c N ρ k) test) (sym (zero-add t)) ∙ all t test is in
    readings_bring_out c S (forced_in c N ρ t) test (brings_marks c ρ (member S) (forced_in c N ρ t) test (λ g low high. sym (marked_member ρ n g low high) ∙ ap (λ X. member X g) marks) own)
