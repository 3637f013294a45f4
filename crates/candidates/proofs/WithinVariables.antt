-- The clauses added have only variables of the formula.
use Rattle.std.proofs.Common.{ℕ, suc, ◌≤◌, List, [], ◌∷◌, map, length, mul-suc, arith}
use Rattle.std.specs.List.{AllByRecursion}
use Rattle.std.proofs.ByRecursion.{All-append}
use Rattle.diagnosis.specs.Sets.{Ascends, IsSet}
use Rattle.cnf_theory.specs.Variables.{variables}
use Rattle.cnf_theory.specs.Formula.{formula}
use Rattle.cnf_theory.proofs.Range.{OfClause, Each, UpTo, within_variables}
use Rattle.candidates.specs.Added.{barring}
use Rattle.candidates.specs.CandidateLaws.{AddedWithinVariables}

pub barring_within : (V a n : ℕ) (S : List ℕ) → 1 ≤ a → n ≤ V → Ascends a n S → OfClause (UpTo V) (barring S)
barring_within V a n [] low high asc = tt
barring_within V a n (x ∷ S) low high asc = ((omega arith, omega arith), barring_within V (suc x) n S (omega arith) high asc.2)

pub barred_within : (V n : ℕ) (given : List (List ℕ)) → n ≤ V → AllByRecursion (IsSet n) given → Each (UpTo V) (map barring given)
barred_within V n [] high sets = tt
barred_within V n (S ∷ given) high sets = (barring_within V 1 n S (omega arith) high sets.0, barred_within V n given high sets.1)

pub added_within_variables : AddedWithinVariables
added_within_variables c ts N given fine =
    let n = length c.gates in
    let V = variables c ts N in
    let room : n ≤ V = (let e = mul-suc n (suc N) in omega arith) in
    All-append (OfClause (UpTo V)) (formula c ts N) (map barring given) (within_variables c ts N fine.circuit fine.tests) (barred_within V n given room fine.sets)
