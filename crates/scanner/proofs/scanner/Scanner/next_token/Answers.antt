use Rattle.std.proofs.Common.{◌<◌, length, drop, refl, sym, ◌∙◌, rules, arith}
use Rattle.std.proofs.lemmas.List.{length-drop}
use Rattle.scanner.proofs.Ahead.{behind_same, behind_begun}
use Rattle.scanner.proofs.scanner.Scanner.next_token.Goals as goal

pub token_at-requires-clause-begun : goal.token_at-requires-clause-begun
token_at-requires-clause-begun c = behind_begun c.args.self.now.line.now c.args.self.now.at c.space_len.result c.space_len.ensures.value

pub returns-in_err-token : goal.returns-in_err-token
returns-in_err-token c =
    let same = behind_same c.args.self.now.line.now c.args.self.now.at c.space_len.result c.space_len.ensures.value in
    let none = sym same ∙ c.in_err-token.ensures in
    search rules

pub returns : goal.returns
returns c =
    let l = c.args.self.now.line.now in
    let at = c.args.self.now.at in
    let steps = sym (behind_same l at c.space_len.result c.space_len.ensures.value) ∙ c.in_ok-token.ensures.0 in
    let behind = c.in_ok-token.behind in
    let before = length-drop at l in
    let after = length-drop behind l in
    let further = c.in_ok-token.ensures.1 in
    let within = c.in_ok-token.ensures.2 in
    let fewer : length (drop behind l) < length (drop at l) = omega arith in
    (steps, fewer, refl, c.in_ok-token.ensures.3)
