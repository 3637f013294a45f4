use Rattle.std.proofs.Common.{◌≡◌, length}
use Rattle.std.specs.Option.{option_map}
use Rattle.netlist_text.specs.Statements.{names}
use Rattle.scanner.specs.Scanned.{ahead}
use Rattle.scanner.specs.Parsed.{up_to_eight, bracketed_of}
use Rattle.scanner.proofs.Gathered.{gathered}
use Rattle.scanner.proofs.parser.bracketed_names.Given as goal

abbrev pub invariant-loop-word : goal.invariant-loop-word
invariant-loop-word l = option_map (gathered (bracketed_of l.names)) (names (ahead l.tokens)) ≡ option_map up_to_eight (names (ahead l.from))

abbrev pub decreases-loop-word : goal.decreases-loop-word
decreases-loop-word l = length (ahead l.tokens)
