-- How a netlist is written, and that its text reads back as it.
--   written      a statement as a line
--   statements   the statements of a netlist: its inputs, its gates, its outputs
--   text_of      the text of statements, a line each
--   ReadsBack    a sound netlist's text gives that netlist
use Rattle.std.specs.Prelude.{◌≡◌, ℕ, zero, suc, List, [], ◌∷◌, ◌++◌, map, Ok, codes, slice_index_or}
use Rattle.circuit.specs.declared.kind.Kind.{Kind}
use Rattle.circuit.specs.declared.kind.Kind.TheVariants.{And, Or, Nand, Nor, Xor, Xnor, Not}
use Rattle.circuit.specs.declared.gate.Signal.{Signal}
use Rattle.circuit.specs.declared.gate.Signal.TheVariants.{Input, Gate}
use Rattle.circuit.specs.Circuits as circuits
use Rattle.netlist_text.specs.Statements.{Name, Statement, input, output, gate}
use Rattle.netlist_text.specs.Netlists.{Netlist}
use Rattle.netlist_text.specs.Meaning.{meaning}
use Rattle.netlist_text.specs.Law.{SoundNetlist}

abbrev pub kind_word : Kind → List ℕ
kind_word And = codes "AND"
kind_word Or = codes "OR"
kind_word Nand = codes "NAND"
kind_word Nor = codes "NOR"
kind_word Xor = codes "XOR"
kind_word Xnor = codes "XNOR"
kind_word Not = codes "NOT"

-- name, name)
abbrev pub listed : List Name → List ℕ
listed [] = codes ")"
listed (n ∷ []) = n ++ codes ")"
listed (n ∷ m ∷ ns) = n ++ (codes ", " ++ listed (m ∷ ns))

abbrev pub written : Statement → List ℕ
written (input n) = codes "INPUT(" ++ listed (n ∷ [])
written (output n) = codes "OUTPUT(" ++ listed (n ∷ [])
written (gate n k ns) = n ++ (codes " = " ++ (kind_word k ++ (codes "(" ++ listed ns)))

abbrev pub text_of : List Statement → List ℕ
text_of [] = []
text_of (s ∷ ss) = written s ++ 10 ∷ text_of ss

-- the one numbered i, from 1
abbrev pub numbered : List Name → ℕ → Name
numbered ns zero = []
numbered ns (suc i) = slice_index_or ns i []

abbrev pub name_of : Netlist → Signal → Name
name_of n (Input i) = numbered n.input_names i
name_of n (Gate g) = numbered n.gate_names g

-- the gates with their names, in order
abbrev pub gate_statements : Netlist → List Name → List circuits.Gate → List Statement
gate_statements n [] gs = []
gate_statements n (w ∷ ws) [] = []
gate_statements n (w ∷ ws) (g ∷ gs) = gate w g.kind (map (name_of n) g.operands) ∷ gate_statements n ws gs

abbrev pub statements : Netlist → List Statement
statements n = map input n.input_names ++ (gate_statements n n.gate_names n.circuit.gates ++ map (λ s. output (name_of n s)) n.circuit.outputs)

abbrev pub ReadsBack : Type 0
ReadsBack = (n : Netlist) → SoundNetlist n → meaning (text_of (statements n)) ≡ Ok n
