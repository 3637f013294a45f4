use Rattle.std.proofs.Common.{◌<◌, Bool, false, [], ◌∷◌, length, get_or, ap, ◌∙◌, arith, length-append}
use Rattle.inline_list.specs.Listed.{listed}
use Rattle.inline_list.proofs.Few.{pushed}
use Rattle.testlog.specs.declared.test.Test.{Test as HeldTest}
use Rattle.testlog.specs.Held.{test_of}
use Rattle.failing.specs.Missed.{word_of}
use Rattle.failing.proofs.Filling.{fill_more, fill_all, map_test_of}
use Rattle.failing.proofs.columns.input_word.Goals as goal

pub loop-test-preserved : goal.loop-test-preserved
loop-test-preserved c =
    let bits = listed c.loop-test.bits in
    let room : length bits < 32 = omega (arith, c.requires, c.loop-test.invariant.one_each, c.loop-test-test.true) in
    let now = pushed 32 bits (listed c.push.new.self) c.input_bit.result _ c.push.ensures.room c.push.ensures.after room in
    record {
      one_each = ap length now ∙ length-append bits (c.input_bit.result ∷ []) ∙ omega (arith, c.loop-test.invariant.one_each);
      filled =
          fill_more (λ (x : HeldTest). get_or (test_of x).inputs c.args.input false) c.args.tests.now bits (listed c.push.new.self) c.loop-test.test-index c.test-item.result c.input_bit.result c.loop-test-test.true now
          (c.input_bit.ensures ∙ ap (λ l. get_or l c.args.input false) c.inputs.ensures ∙ ap (λ (x : HeldTest). get_or (test_of x).inputs c.args.input false) c.test-item.is)
          ∙ c.loop-test.invariant.filled;
    }

pub returns : goal.returns
returns c =
    let f : HeldTest → Bool = λ x. get_or (test_of x).inputs c.args.input false in
    c.pack.ensures
    ∙ ap word_of
    (c.as_slice.ensures
    ∙ fill_all f c.args.tests.now (listed c.loop-test.bits) c.loop-test.test-index c.loop-test-test.false c.loop-test.invariant.filled
    ∙ map_test_of (λ x. get_or x.inputs c.args.input false) c.args.tests.now)
