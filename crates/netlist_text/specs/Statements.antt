-- The three forms of a line.
--   Statement   what a line says: an input, an output, or a gate with its kind and operands, by names
--   statement   the statement of a line's words and signs, if they have one of the forms
use Rattle.std.specs.Prelude.{ℕ, Bool, true, false, cond, ◌&&◌, List, [], ◌∷◌, length, Some, None, codes, Option, ◌==◌, nat_le}
use Rattle.std.specs.Str.{bytes_eq}
use Rattle.circuit.specs.declared.kind.Kind.{Kind}
use Rattle.circuit.specs.declared.kind.Kind.TheVariants.{And, Or, Nand, Nor, Xor, Xnor, Not}
use Rattle.netlist_text.specs.Words.{Lexeme, word, sign}

-- a name, by its bytes
abbrev pub Name : Type 0
Name = List ℕ

pub data Statement : Type 0 where
  input : Name → Statement
  output : Name → Statement
  gate : Name → Kind → List Name → Statement

-- a word is a name if it has at most 16 bytes
abbrev pub is_name : List ℕ → Bool
is_name w = nat_le (length w) 16

abbrev pub kind_of : List ℕ → Option Kind
kind_of w =
    cond (bytes_eq w (codes "AND")) (Some And)
    (cond (bytes_eq w (codes "OR")) (Some Or)
    (cond (bytes_eq w (codes "NAND")) (Some Nand)
    (cond (bytes_eq w (codes "NOR")) (Some Nor)
    (cond (bytes_eq w (codes "XOR")) (Some Xor)
    (cond (bytes_eq w (codes "XNOR")) (Some Xnor)
    (cond (bytes_eq w (codes "NOT")) (Some Not) None))))))

abbrev pub none : {A : Type 0} → List A → Bool
none [] = true
none (x ∷ xs) = false

-- w in front of more names, if it is one
abbrev pub named : List ℕ → Option (List Name) → Option (List Name)
named w None = None
named w (Some ns) = cond (is_name w) (Some (w ∷ ns)) None

-- after a name: a comma and more names, or a bracket that ends the line
abbrev pub after : ℕ → Bool → Option (List Name) → Option (List Name)
after s last more = cond (s == 44) more (cond (s == 41 && last) (Some []) None)

-- names with commas between them, a closing bracket, and then nothing
abbrev pub names : List Lexeme → Option (List Name)
names [] = None
names (sign s ∷ ts) = None
names (word w ∷ []) = None
names (word w ∷ word v ∷ ts) = None
names (word w ∷ sign s ∷ ts) = named w (after s (none ts) (names ts))

abbrev pub bracketed : List Lexeme → Option (List Name)
bracketed [] = None
bracketed (word w ∷ ts) = None
bracketed (sign s ∷ ts) = cond (s == 40) (names ts) None

-- INPUT(name) and OUTPUT(name)
abbrev pub declared : List ℕ → Option (List Name) → Option Statement
declared w None = None
declared w (Some []) = None
declared w (Some (n ∷ [])) = cond (bytes_eq w (codes "INPUT")) (Some (input n)) (cond (bytes_eq w (codes "OUTPUT")) (Some (output n)) None)
declared w (Some (n ∷ m ∷ ns)) = None

-- name = KIND(name, ...)
abbrev pub defined : List ℕ → Option Kind → Option (List Name) → Option Statement
defined n None o = None
defined n (Some k) None = None
defined n (Some k) (Some ns) = cond (is_name n) (Some (gate n k ns)) None

-- what comes after 'name ='
abbrev pub definition : List ℕ → List Lexeme → Option Statement
definition n [] = None
definition n (sign s ∷ ts) = None
definition n (word k ∷ ts) = defined n (kind_of k) (bracketed ts)

-- what comes after the first word
abbrev pub begun : List ℕ → List Lexeme → Option Statement
begun w [] = None
begun w (word v ∷ ts) = None
begun w (sign s ∷ ts) = cond (s == 61) (definition w ts) (declared w (bracketed (sign s ∷ ts)))

abbrev pub statement : List Lexeme → Option Statement
statement [] = None
statement (sign s ∷ ts) = None
statement (word w ∷ ts) = begun w ts
