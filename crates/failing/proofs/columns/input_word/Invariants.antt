use Rattle.std.proofs.Common.{◌≡◌, false, ◌++◌, map, length, get_or, drop}
use Rattle.inline_list.specs.Listed.{listed}
use Rattle.testlog.specs.Held.{test_of}
use Rattle.failing.proofs.columns.input_word.Given as goal

abbrev pub invariant-loop-test : goal.invariant-loop-test
invariant-loop-test l = record {
  one_each : length (listed l.bits) ≡ l.test-index;
  filled : listed l.bits ++ map (λ x. get_or (test_of x).inputs l.input false) (drop l.test-index l.tests) ≡ map (λ x. get_or (test_of x).inputs l.input false) l.tests;
}
