use Rattle.std.proofs.Common.{◌<◌, length, length-drop, ap, ◌∙◌, rules, arith}
use Rattle.std.proofs.lemmas.List.{take_rest}
use Rattle.scanner.proofs.Ahead.{word_here, word_some}
use Rattle.scanner.proofs.token.token_at.Goals as goal

pub returns-in_default : goal.returns-in_default
returns-in_default c =
    let l = c.args.line.now in
    let b = c.in_ok-get.field-0.now in
    let n = c.word_len-len.result in
    let some = word_some l c.args.at b (search rules) (search rules) c.requires.clean c.requires.begun (search rules) (search rules) (search rules) (search rules) n c.word_len-len.ensures.value in
    let bound = c.word_len-len.ensures.bound in
    let rest = ap length (take_rest l c.args.at) ∙ length-drop c.args.at l in
    let inside : c.args.at < length l = search rules in
    (word_here l c.args.at b (search rules) (search rules) c.requires.clean c.requires.begun (search rules) (search rules) (search rules) (search rules) n c.word_len-len.ensures.value, omega arith, omega arith, tt)
