use Rattle.std.proofs.Common.{◌<◌, map, length, arith, length-set}
use Rattle.testlog.specs.Held.{test_of}
use Rattle.failing.specs.Missed.{word_of}
use Rattle.failing.specs.Columns.{column}
use Rattle.failing.proofs.InLanes.{words_more}
use Rattle.failing.proofs.columns.input_words.Goals as goal

pub loop-input-preserved : goal.loop-input-preserved
loop-input-preserved c =
    let room : c.loop-input.input < length c.loop-input.words = omega arith in
    (simp length-set c.loop-input.invariant.0, words_more c.loop-input.words c.loop-input.input c.input_word.result (λ k. word_of (column (map test_of c.args.tests.now) k)) room c.loop-input.invariant.1 c.input_word.ensures)
