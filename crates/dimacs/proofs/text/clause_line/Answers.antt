-- A word for each literal, then 0 and the end of the line.
use Rattle.std.proofs.Common.{[], ◌∷◌, ◌++◌, length, get_or, take, pos, sym, ap, ◌∙◌, arith, length-append, take_all, w32, SFits, rules}
use Rattle.std.proofs.lemmas.Int.{to_z-of_z}
use Rattle.std.specs.Fmt.{signed_decimal}
use Rattle.inline_list.specs.Listed.{listed}
use Rattle.inline_list.proofs.Few.{listed_few}
use Rattle.dimacs.specs.Texts.{words_of}
use Rattle.dimacs.proofs.Appending.{appended_both, appended_as, words_more, filled}
use Rattle.dimacs.proofs.text.clause_line.Goals as goal

pub loop-literal-preserved : goal.loop-literal-preserved
loop-literal-preserved c =
    let i = c.loop-literal.literal-index in
    let zs = c.as_slice-literal-items.result.now in
    let z = get_or zs i (pos 0) in
    let more = words_more zs i (pos 0) c.loop-literal-test.true in
    let n = ap length more ∙ length-append (words_of (take i zs)) (signed_decimal z ++ 32 ∷ []) in
    let m = length-append (signed_decimal z) (32 ∷ []) in
    let so_far = c.loop-literal.invariant.1 in
    let fits : SFits w32 z = search rules in
    let own = ap signed_decimal (to_z-of_z w32 z fits) in
    let same = ap length own in
    let few = c.push_number.ensures.short in
    (appended_as _ _ _ _ (sym more) (appended_both _ _ _ _ _ c.loop-literal.invariant.0 (appended_both _ _ _ _ _ (appended_as _ _ _ _ own c.push_number.ensures.text) c.push.ensures)), omega arith)

pub returns : goal.returns
returns c =
    let all = ap words_of (take_all _ _ c.loop-literal-test.false ∙ c.as_slice-literal-items.ensures) in
    let so_far = c.loop-literal.invariant.1 in
    let n = ap length all in
    let k = ap length c.as_slice-literal-items.ensures in
    let nine = listed_few c.args.clause.now in
    let m = length-append (words_of (listed c.args.clause.now)) (48 ∷ 10 ∷ []) in
    filled _ _ (words_of (listed c.args.clause.now) ++ 48 ∷ 10 ∷ []) c.new-text.ensures (omega arith) (appended_both _ _ _ _ _ (appended_as _ _ _ _ all c.loop-literal.invariant.0) c.push-2.ensures)
