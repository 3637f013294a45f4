use Rattle.std.proofs.Common.{◌≡◌, true, false, Some, None, sym, rules}
use Rattle.netlist_text.specs.Words.{skipped, stray, lexemes}
use Rattle.netlist_text.specs.Statements.{statement, input, gate}
use Rattle.scanner.specs.Named.{name_of}
use Rattle.scanner.specs.Parsed.{names_of, crowded}
use Rattle.netlist.specs.Drafts.{draft_of}
use Rattle.netlist.proofs.Lined.{statement_read, crowded_refused}
use Rattle.netlist.proofs.tables.Tables.read_line.Goals as goal

pub returns-in-Input : goal.returns-in-Input
returns-in-Input c =
    let l = c.args.line.now in
    let s : skipped l ≡ false = search rules in
    let e : stray 1 l ≡ None = search rules in
    let f : statement (lexemes l) ≡ Some (input (name_of c.in-Input.name)) = search rules in
    statement_read (draft_of c.args.self.now) c.args.number l s e c.admit_input.result (draft_of c.admit_input.new.self) (input (name_of c.in-Input.name)) f c.admit_input.ensures

pub returns-in-Gate : goal.returns-in-Gate
returns-in-Gate c =
    let l = c.args.line.now in
    let s : skipped l ≡ false = search rules in
    let e : stray 1 l ≡ None = search rules in
    let f : statement (lexemes l) ≡ Some (gate (name_of c.in-Gate.name) c.in-Gate.kind (names_of c.in-Gate.operands)) = search rules in
    statement_read (draft_of c.args.self.now) c.args.number l s e c.admit_gate.result (draft_of c.admit_gate.new.self) (gate (name_of c.in-Gate.name) c.in-Gate.kind (names_of c.in-Gate.operands)) f c.admit_gate.ensures

pub returns-in-Crowded : goal.returns-in-Crowded
returns-in-Crowded c =
    let l = c.args.line.now in
    let s : skipped l ≡ false = search rules in
    let e : stray 1 l ≡ None = search rules in
    let f : crowded (statement (lexemes l)) ≡ true = search rules in
    sym (crowded_refused (draft_of c.args.self.now) c.args.number l s e f)
