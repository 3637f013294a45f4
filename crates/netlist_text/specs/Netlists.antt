-- Netlists: circuits whose signals have names.
--   Netlist   a circuit, and the names of its inputs and gates, by number
--   Draft     what the lines of a text so far declare: a netlist without outputs, and the OUTPUT lines
--   signal    the signal of a name
use Rattle.std.specs.Prelude.{ℕ, Bool, List, [], ◌∷◌, Some, None, Option}
use Rattle.std.specs.List.{position_from}
use Rattle.std.specs.Str.{bytes_eq}
use Rattle.circuit.specs.declared.gate.Signal.{Signal}
use Rattle.circuit.specs.declared.gate.Signal.TheVariants.{Input, Gate}
use Rattle.circuit.specs.Circuits.{Circuit, empty}
use Rattle.netlist_text.specs.Statements.{Name}

pub record Netlist : Type 0 where
  pub circuit : Circuit
  pub input_names : List Name
  pub gate_names : List Name

pub record OutputLine : Type 0 where
  pub line : ℕ
  pub name : Name

pub record Draft : Type 0 where
  pub netlist : Netlist
  pub outputs : List OutputLine

abbrev pub blank : Draft
blank = record { netlist = record { circuit = empty; input_names = []; gate_names = [] }; outputs = [] }

-- whether two names are the same
abbrev pub same_name : Name → Name → Bool
same_name = bytes_eq

-- the number of the first of these names that is n, where the first has number i
abbrev pub find : ℕ → List Name → Name → Option ℕ
find i ns n = position_from (λ x. same_name x n) i ns

abbrev pub either : Option ℕ → Option ℕ → Option Signal
either (Some i) o = Some (Input i)
either None (Some g) = Some (Gate g)
either None None = None

abbrev pub signal : Netlist → Name → Option Signal
signal n w = either (find 1 n.input_names w) (find 1 n.gate_names w)

abbrev pub joined_to : Option Signal → Option (List Signal) → Option (List Signal)
joined_to None o = None
joined_to (Some s) None = None
joined_to (Some s) (Some ss) = Some (s ∷ ss)

-- the signals of these names, if each names one
abbrev pub signals : Netlist → List Name → Option (List Signal)
signals n [] = Some []
signals n (w ∷ ws) = joined_to (signal n w) (signals n ws)
