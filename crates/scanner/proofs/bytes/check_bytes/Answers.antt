use Rattle.std.proofs.Common.{ap, ◌∙◌, sym, not, ◌+◌}
use Rattle.std.specs.Option.{option_map}
use Rattle.netlist_text.specs.Words.{line_byte}
use Rattle.netlist_text.proofs.Positions.{position_from_next}
use Rattle.scanner.proofs.bytes.check_bytes.Goals as goal

pub returns-in-Some : goal.returns-in-Some
returns-in-Some c = ap (option_map (λ i. i + 1)) c.in-Some.ensures.value ∙ sym (position_from_next (λ b. not (line_byte b)) 0 c.args.line.now)

pub returns-in-None : goal.returns-in-None
returns-in-None c = ap (option_map (λ i. i + 1)) c.in-None.ensures.value ∙ sym (position_from_next (λ b. not (line_byte b)) 0 c.args.line.now)
