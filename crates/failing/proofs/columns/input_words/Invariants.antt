use Rattle.std.proofs.Common.{◌≡◌, ℕ, ◌<◌, map, length, get_or}
use Rattle.testlog.specs.Held.{test_of}
use Rattle.failing.specs.Missed.{word_of}
use Rattle.failing.specs.Columns.{column}
use Rattle.failing.proofs.columns.input_words.Given as goal

abbrev pub invariant-loop-input : goal.invariant-loop-input
invariant-loop-input l = (length l.words ≡ 64) × ((k : ℕ) → k < l.input → get_or (map (λ w. w.0) l.words) k 0 ≡ word_of (column (map test_of l.tests) k))
