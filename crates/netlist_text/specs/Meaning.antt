-- What a netlist text means: a netlist, or the first question that says no.
--   admitted    a draft after one more statement, or the number of the question that refuses it
--   read_line   a draft after one more line of the text
--   finished    the netlist of a whole text
--   meaning     what a text means
use Rattle.std.specs.Prelude.{ℕ, ◌+◌, Bool, cond, not, ◌||◌, List, [], ◌∷◌, ◌++◌, length, is_some, Some, None, Ok, Err, Option, Result, ◌==◌, nat_le, nat_lt}
use Rattle.refusal.specs.declared.Refusal.{Refusal}
use Rattle.refusal.specs.Asking.{ask}
use Rattle.circuit.specs.declared.kind.Kind.{Kind}
use Rattle.circuit.specs.declared.gate.Signal.{Signal}
use Rattle.circuit.specs.SignalEq.{signal_eq}
use Rattle.circuit.specs.Kinds.{takes}
use Rattle.std.specs.List.{list_any}
use Rattle.circuit.specs.Circuits.{with_input, with_gate, with_output}
use Rattle.netlist_text.specs.Words.{lines, lexemes, stray, skipped}
use Rattle.netlist_text.specs.Statements.{Name, Statement, input, output, gate, statement, none}
use Rattle.netlist_text.specs.Netlists.{Netlist, OutputLine, Draft, blank, signal, signals}

abbrev pub refusal : ℕ → ℕ → ℕ → Refusal
refusal number line column = record { number = number; line = line; column = column }

-- ── one statement more ──
abbrev pub input_added : Draft → Name → Draft
input_added d n = record { netlist = record { circuit = with_input d.netlist.circuit; input_names = d.netlist.input_names ++ n ∷ []; gate_names = d.netlist.gate_names }; outputs = d.outputs }

abbrev pub gate_added : Draft → Name → Kind → List Signal → Draft
gate_added d n k ss = record { netlist = record { circuit = with_gate d.netlist.circuit (record { kind = k; operands = ss }); input_names = d.netlist.input_names; gate_names = d.netlist.gate_names ++ n ∷ [] }; outputs = d.outputs }

abbrev pub output_added : Draft → ℕ → Name → Draft
output_added d line n = record { netlist = d.netlist; outputs = d.outputs ++ record { line = line; name = n } ∷ [] }

-- whether the name is that of no signal yet
abbrev pub new : Draft → Name → Bool
new d n = not (is_some (signal d.netlist n))

-- a gate over these signals, if each operand named one
abbrev pub connected : Draft → Name → Kind → Option (List Signal) → Result Draft ℕ
connected d n k None = Err 7
connected d n k (Some ss) = ask 8 (nat_lt (length d.netlist.circuit.gates) 256) (Ok (gate_added d n k ss))

abbrev pub admitted : Draft → ℕ → Statement → Result Draft ℕ
admitted d line (input n) = ask 6 (new d n) (ask 8 (nat_lt d.netlist.circuit.inputs 64) (Ok (input_added d n)))
admitted d line (output n) = ask 8 (nat_lt (length d.outputs) 64) (Ok (output_added d line n))
admitted d line (gate n k ns) = ask 5 (takes k (length ns)) (ask 6 (new d n) (connected d n k (signals d.netlist ns)))

-- ── one line more ──
abbrev pub on_line : {X : Type 0} → ℕ → Result X ℕ → Result X Refusal
on_line line (Ok x) = Ok x
on_line line (Err q) = Err (refusal q line 0)

abbrev pub formed : Draft → ℕ → Option Statement → Result Draft Refusal
formed d line None = Err (refusal 4 line 0)
formed d line (Some s) = on_line line (admitted d line s)

abbrev pub clean : Draft → ℕ → List ℕ → Option ℕ → Result Draft Refusal
clean d line l (Some column) = Err (refusal 3 line column)
clean d line l None = formed d line (statement (lexemes l))

abbrev pub read_line : Draft → ℕ → List ℕ → Result Draft Refusal
read_line d line l = cond (skipped l) (Ok d) (clean d line l (stray 1 l))

-- ── the whole text ──
-- whether the signal is one of the outputs so far
abbrev pub shows : Netlist → Signal → Bool
shows n s = list_any (λ t. signal_eq t s) n.circuit.outputs

abbrev pub output_shown : Netlist → Signal → Netlist
output_shown n s = record { circuit = with_output n.circuit s; input_names = n.input_names; gate_names = n.gate_names }

-- a netlist with the output of this line: its signal is there, and no output yet
abbrev pub shown : Netlist → ℕ → Option Signal → Result Netlist Refusal
shown n line None = Err (refusal 10 line 0)
shown n line (Some s) = cond (shows n s) (Err (refusal 10 line 0)) (Ok (output_shown n s))

abbrev pub and_then : {X Y : Type 0} → Result X Refusal → (X → Result Y Refusal) → Result Y Refusal
and_then (Ok x) go = go x
and_then (Err r) go = Err r

-- a netlist with the outputs of these lines
abbrev pub with_outputs : Netlist → List OutputLine → Result Netlist Refusal
with_outputs n [] = Ok n
with_outputs n (o ∷ os) = and_then (shown n o.line (signal n o.name)) (λ m. with_outputs m os)

-- whether there is no input, no output or no gate
abbrev pub lacking : Draft → Bool
lacking d = d.netlist.circuit.inputs == 0 || (none d.outputs || none d.netlist.circuit.gates)

abbrev pub finished : Draft → Result Netlist Refusal
finished d = cond (lacking d) (Err (refusal 9 0 0)) (with_outputs d.netlist d.outputs)

-- the lines from this number on, after what they follow
abbrev pub read_lines : ℕ → Draft → List (List ℕ) → Result Netlist Refusal
read_lines line d [] = finished d
read_lines line d (l ∷ ls) = and_then (read_line d line l) (λ e. read_lines (line + 1) e ls)

abbrev pub meaning : List ℕ → Result Netlist Refusal
meaning text = cond (nat_le (length text) 60000) (read_lines 1 blank (lines text)) (Err (refusal 2 0 0))

-- what loading a text gives where a netlist is in already, or none
abbrev pub load : Option Netlist → List ℕ → Result Netlist Refusal
load (Some n) text = Err (refusal 1 0 0)
load None text = meaning text
