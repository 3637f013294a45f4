-- The first line tells the sizes, and every other is that of a clause.
use Rattle.std.proofs.Common.{◌≡◌, suc, ◌-◌, [], ◌∷◌, ◌++◌, Some, ap, ◌∙◌, arith}
use Rattle.std.specs.Option.{option_map}
use Rattle.circuit.specs.Held.{circuit_of}
use Rattle.testlog.specs.Held.{tests_of}
use Rattle.cnf_theory.specs.Formula.{formula}
use Rattle.cnf_theory.specs.Dimacs.{lines}
use Rattle.dimacs.specs.Texts.{words_of}
use Rattle.dimacs.specs.LineCall.{line_at}
use Rattle.dimacs.proofs.Lines.{line_at_clause}
use Rattle.dimacs.proofs.line.line_text.Goals as goal

pub returns-in_ok-clause-in_default : goal.returns-in_ok-clause-in_default
returns-in_ok-clause-in_default c =
    let p = c.args.problem.now in
    let C = circuit_of p.circuit.now in
    let ts = tests_of p.tests.now in
    let N = p.bound.value in
    let far = c.in_default in
    let e : suc (suc (c.args.line - 2)) ≡ c.args.line = omega arith in
    ap Some (c.clause_line.ensures) ∙ ap (option_map (λ zs. words_of zs ++ 48 ∷ 10 ∷ [])) c.in_ok-clause-in_default.ensures ∙ line_at_clause (formula C ts N) (c.args.line - 2) ∙ ap (line_at (lines C ts N)) e
