use Rattle.std.proofs.Common.{sym, arith}
use Rattle.netlist_text.proofs.Lexing.{clean_bytes}
use Rattle.scanner.proofs.parser.parse.Goals as goal

pub invariant_of-line_statement : goal.invariant_of-line_statement
invariant_of-line_statement c = record { clean = clean_bytes 1 c.args.line.now (sym c.in_ok-check_bytes.ensures); within = omega arith }
