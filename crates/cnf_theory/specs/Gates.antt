-- The clauses of a gate.
--   conjunction    a literal of l is true just if the literals of all operands are; the signs are given
--   rows           all rows of n values, the first value changing fastest, from all 0
--   excluding      literals of the operands, all false just in this row of their values
--   tabled         one clause for each row of the operands' values: l has the value that a function gives there
--   function       l has the value that the kind gives for the operands' values
--   selection      a gate with mark s has the value l that it computes, or where it is marked the forced value w
--   gate_clauses   the clauses of gate g: its function, then the selection
use Rattle.std.specs.Prelude.{ℕ, zero, suc, Bool, true, false, not, List, [], ◌∷◌, ◌++◌, map, length}
use Rattle.std.specs.List.{flat_map}
use Rattle.circuit.specs.declared.kind.Kind.{Kind}
use Rattle.circuit.specs.declared.kind.Kind.TheVariants.{And, Or, Nand, Nor, Xor, Xnor, Not}
use Rattle.circuit.specs.Kinds.{gives}
use Rattle.circuit.specs.Circuits.{Gate}
use Rattle.cnf_theory.specs.Literals.{positive, negative, signed, Clause}
use Rattle.cnf_theory.specs.Variables.{computed_variable, forced_variable, value_variable, signal_variable}

-- where x is l's literal and y an operand's: (-x, y) for each operand, then x with all the -y
abbrev pub conjunction : Bool → Bool → ℕ → List ℕ → List Clause
conjunction x y l xs = map (λ a. signed (not x) l ∷ signed y a ∷ []) xs ++ (signed x l ∷ map (signed (not y)) xs) ∷ []

abbrev pub rows : ℕ → List (List Bool)
rows zero = [] ∷ []
rows (suc n) = flat_map (λ r. (false ∷ r) ∷ (true ∷ r) ∷ []) (rows n)

abbrev pub excluding : List ℕ → List Bool → Clause
excluding [] bs = []
excluding (a ∷ xs) [] = []
excluding (a ∷ xs) (b ∷ bs) = signed (not b) a ∷ excluding xs bs

abbrev pub tabled : (List Bool → Bool) → ℕ → List ℕ → List Clause
tabled f l xs = map (λ r. excluding xs r ++ signed (f r) l ∷ []) (rows (length xs))

-- OR is 0 just if all operands are 0, and NOT is a NAND of one operand
abbrev pub function : Kind → ℕ → List ℕ → List Clause
function And l xs = conjunction true true l xs
function Nand l xs = conjunction false true l xs
function Or l xs = conjunction false false l xs
function Nor l xs = conjunction true false l xs
function Not l xs = conjunction false true l xs
function Xor l xs = tabled (gives Xor) l xs
function Xnor l xs = tabled (gives Xnor) l xs

abbrev pub selection : ℕ → ℕ → ℕ → ℕ → List Clause
selection s l w z =
    (positive s ∷ negative l ∷ positive z ∷ [])
    ∷ (positive s ∷ positive l ∷ negative z ∷ [])
    ∷ (negative s ∷ negative w ∷ positive z ∷ [])
    ∷ (negative s ∷ positive w ∷ negative z ∷ [])
    ∷ []

abbrev pub gate_clauses : ℕ → ℕ → ℕ → Gate → List Clause
gate_clauses B I n g =
    function g.kind (computed_variable B I n) (map (signal_variable B I) g.operands)
    ++ selection n (computed_variable B I n) (forced_variable B I n) (value_variable B I n)
