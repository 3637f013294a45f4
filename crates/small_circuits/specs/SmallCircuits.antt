-- Small circuits, worked out by hand: what the full list and the formula's text are for some tests and bounds, from the netlist's text and the tests' records.
--   text_p              m = AND(a, b), y = OR(m, c), z = NOT(m), with inputs a, b, c and outputs y, z; its gates m, y, z have the numbers 1, 2, 3
--   text_q              y = NOT(a), with the input a and the output y
--   Row                 a text, records and a bound, and the answer that is expected
--   asked               what a question has for an answer on a row, if the text and the records are taken
--   FoundAsListed       on each row of the table the full list is the one written there
--   WrittenAsLaidDown   on each row of the formula table the lines are the ones written there
use Rattle.std.specs.Prelude.{◌≡◌, ℕ, List, [], ◌∷◌, ◌++◌, map, Some, None, Ok, Err, codes, Option, Result}
use Rattle.std.specs.List.{flat_map}
use Rattle.refusal.specs.declared.Refusal.{Refusal}
use Rattle.circuit.specs.Circuits.{Circuit}
use Rattle.circuit.specs.Tests.{Test}
use Rattle.diagnosis.specs.FullList.{full_list}
use Rattle.cnf_theory.specs.Dimacs.{lines}
use Rattle.test_format.specs.Records.{recorded}
use Rattle.netlist_text.specs.Netlists.{Netlist}
use Rattle.netlist_text.specs.Meaning.{meaning}

abbrev line : List ℕ → List ℕ
line l = l ++ 10 ∷ []

abbrev pub text_p : List ℕ
text_p = flat_map line (codes "INPUT(a)" ∷ codes "INPUT(b)" ∷ codes "INPUT(c)" ∷ codes "OUTPUT(y)" ∷ codes "OUTPUT(z)" ∷ codes "m = AND(a, b)" ∷ codes "y = OR(m, c)" ∷ codes "z = NOT(m)" ∷ [])

abbrev pub text_q : List ℕ
text_q = flat_map line (codes "INPUT(a)" ∷ codes "OUTPUT(y)" ∷ codes "y = NOT(a)" ∷ [])

pub record Row : Type 0 where
  pub text : List ℕ
  pub records : List (List ℕ)
  pub bound : ℕ
  pub answer : List (List ℕ)

abbrev row : List ℕ → List (List ℕ) → ℕ → List (List ℕ) → Row
row text rs N L = record { text = text; records = rs; bound = N; answer = L }

-- the tests of these records, after some that are held
abbrev pub tests_of : Circuit → Result (List Test) Refusal → List (List ℕ) → Result (List Test) Refusal
tests_of c held [] = held
tests_of c (Ok ts) (r ∷ rs) = tests_of c (recorded c ts r) rs
tests_of c (Err f) (r ∷ rs) = Err f

-- what is asked of a circuit, its tests and a bound
abbrev pub Question : Type 0
Question = Circuit → List Test → ℕ → List (List ℕ)

abbrev pub asked_with : Question → Circuit → Result (List Test) Refusal → ℕ → Option (List (List ℕ))
asked_with Q c (Ok ts) N = Some (Q c ts N)
asked_with Q c (Err f) N = None

abbrev pub asked_for : Question → Result Netlist Refusal → List (List ℕ) → ℕ → Option (List (List ℕ))
asked_for Q (Ok n) rs N = asked_with Q n.circuit (tests_of n.circuit (Ok []) rs) N
asked_for Q (Err f) rs N = None

abbrev pub asked : Question → Row → Option (List (List ℕ))
asked Q r = asked_for Q (meaning r.text) r.records r.bound

abbrev pub table : List Row
table =
    row text_p ((3 ∷ 3 ∷ 2 ∷ []) ∷ []) 2 ((1 ∷ []) ∷ (2 ∷ 3 ∷ []) ∷ [])
    ∷ row text_p ((3 ∷ 3 ∷ 2 ∷ []) ∷ []) 1 ((1 ∷ []) ∷ [])
    ∷ row text_p ((3 ∷ 3 ∷ 2 ∷ []) ∷ (3 ∷ 7 ∷ 0 ∷ []) ∷ []) 2 ((1 ∷ 2 ∷ []) ∷ (2 ∷ 3 ∷ []) ∷ [])
    ∷ row text_p ((3 ∷ 3 ∷ 2 ∷ []) ∷ (3 ∷ 7 ∷ 0 ∷ []) ∷ []) 1 []
    ∷ row text_p ((1 ∷ 3 ∷ 0 ∷ []) ∷ []) 1 ((1 ∷ []) ∷ (2 ∷ []) ∷ [])
    ∷ row text_p [] 0 ([] ∷ [])
    ∷ row text_p ((0 ∷ 3 ∷ []) ∷ []) 0 ([] ∷ [])
    ∷ row text_q ((1 ∷ 1 ∷ 1 ∷ []) ∷ []) 0 []
    ∷ row text_q ((1 ∷ 1 ∷ 1 ∷ []) ∷ []) 1 ((1 ∷ []) ∷ [])
    ∷ []

abbrev pub formula_table : List Row
formula_table =
    row text_q ((1 ∷ 1 ∷ 1 ∷ []) ∷ []) 0
    (line (codes "p cnf 6 10")
    ∷ line (codes "-1 2 0")
    ∷ line (codes "-2 0")
    ∷ line (codes "3 0")
    ∷ line (codes "4 3 0")
    ∷ line (codes "-4 -3 0")
    ∷ line (codes "1 -4 6 0")
    ∷ line (codes "1 4 -6 0")
    ∷ line (codes "-1 -5 6 0")
    ∷ line (codes "-1 5 -6 0")
    ∷ line (codes "6 0")
    ∷ [])
    ∷ []

-- a question has the written answer on each row
abbrev pub Answers : Question → List Row → Type 0
Answers Q rows = map (asked Q) rows ≡ map (λ r. Some r.answer) rows

abbrev pub FoundAsListed : Type 0
FoundAsListed = Answers full_list table

abbrev pub WrittenAsLaidDown : Type 0
WrittenAsLaidDown = Answers lines formula_table
