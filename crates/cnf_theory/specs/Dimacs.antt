-- The formula as DIMACS text, line by line.
--   word          a literal as a signed number, in decimal digits
--   clause_line   a clause: each literal and a space, then 0
--   head_line     the first line: how many variables and clauses there are
--   lines         all lines of the formula's text, each with the byte 10 at its end
use Rattle.std.specs.Prelude.{ℕ, List, [], ◌∷◌, ◌++◌, map, length, codes, decimal}
use Rattle.std.specs.List.{flat_map}
use Rattle.std.specs.Fmt.{signed_decimal}
use Rattle.circuit.specs.Circuits.{Circuit}
use Rattle.circuit.specs.Tests.{Test}
use Rattle.cnf_theory.specs.Literals.{Literal, Clause, integer}
use Rattle.cnf_theory.specs.Variables.{variables}
use Rattle.cnf_theory.specs.Formula.{formula}

abbrev pub word : Literal → List ℕ
word x = signed_decimal (integer x)

abbrev pub clause_line : Clause → List ℕ
clause_line c = flat_map (λ x. word x ++ 32 ∷ []) c ++ 48 ∷ 10 ∷ []

abbrev pub head_line : ℕ → ℕ → List ℕ
head_line v n = codes "p cnf " ++ decimal v ++ 32 ∷ decimal n ++ 10 ∷ []

abbrev pub lines : Circuit → List Test → ℕ → List (List ℕ)
lines c ts N = head_line (variables c ts N) (length (formula c ts N)) ∷ map clause_line (formula c ts N)
