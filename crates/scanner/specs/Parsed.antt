-- What the parser's answers say.
--   up_to_eight   these names, unless there are more than eight
--   one_more      names with one more behind them, unless there are more than eight
--   Says          that a parsed statement is this one
--   Parsed        what the answer for a line's bytes is
use Rattle.std.specs.Prelude.{◌≡◌, ℕ, Bool, true, false, cond, List, [], ◌∷◌, ◌++◌, map, length, Some, None, Ok, Err, Option, Result, nat_lt}
use Rattle.inline_list.specs.Listed.{listed}
use Rattle.inline_list.specs.declared.list.InlineList.{InlineList}
use Rattle.inline_list.specs.declared.list.Full.{Full}
use Rattle.netlist_text.specs.Words.{lexemes, stray}
use Rattle.netlist_text.specs.Statements.{Name, Statement, input, output, gate, statement}
use Rattle.scanner.specs.declared.name.Name.{Name as HeldName}
use Rattle.scanner.specs.declared.token.ScanFault.{ScanFault}
use Rattle.scanner.specs.declared.statement.Statement.{Statement as HeldStatement}
use Rattle.scanner.specs.declared.statement.Statement.TheVariants as held
use Rattle.scanner.specs.Named.{name_of}

abbrev pub names_of : InlineList HeldName 8 → List Name
names_of o = map name_of (listed o)

abbrev pub up_to_eight : List Name → Option (List Name)
up_to_eight ns = cond (nat_lt 8 (length ns)) None (Some ns)

abbrev pub one_more : Option (List Name) → Name → Option (List Name)
one_more None n = None
one_more (Some ns) n = up_to_eight (ns ++ n ∷ [])

-- the names that the code holds
abbrev pub bracketed_of : Result (InlineList HeldName 8) Full → Option (List Name)
bracketed_of (Ok o) = Some (names_of o)
bracketed_of (Err e) = None

-- a gate with more than eight operands
abbrev pub crowded : Option Statement → Bool
crowded None = false
crowded (Some (input n)) = false
crowded (Some (output n)) = false
crowded (Some (gate n k ns)) = nat_lt 8 (length ns)

abbrev pub Says : Option HeldStatement → Option Statement → Type 0
Says None o = o ≡ None
Says (Some (held.Input n)) o = o ≡ Some (input (name_of n))
Says (Some (held.Output n)) o = o ≡ Some (output (name_of n))
Says (Some (held.Gate n k ns)) o = o ≡ Some (gate (name_of n) k (names_of ns))
Says (Some held.Crowded) o = crowded o ≡ true

-- a line with a byte that may not stand there has that byte's column; any other has its statement
abbrev pub Parsed : List ℕ → Result (Option HeldStatement) ScanFault → Type 0
Parsed l (Ok s) = (stray 1 l ≡ None) × Says s (statement (lexemes l))
Parsed l (Err f) = stray 1 l ≡ Some f.column
