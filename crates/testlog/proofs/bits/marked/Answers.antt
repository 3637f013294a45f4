use Rattle.std.proofs.Common.{false, get_or, ◌∙◌, rules, arith}
use Rattle.std.specs.List.{range_with_len}
use Rattle.std.proofs.lemmas.List.Sums.{length-filter}
use Rattle.std.proofs.lemmas.Iterator.{YieldsList-from_range}
use Rattle.std.proofs.lemmas.Iterator.Consumers.{count_from_yields_List, YieldsList-from_filter, YieldsList-at}
use Rattle.test_format.specs.Packing.{unpack}
use Rattle.testlog.proofs.Places.{ones_from}
use Rattle.testlog.proofs.bits.marked.Goals as goal

pub returns-clause-value : goal.returns-clause-value
returns-clause-value c =
    let u = unpack c.args.map.now in
    let O = c.args.outputs in
    count_from_yields_List c.filter.result _ c.count.ensures.ran (YieldsList-from_filter _ (λ k. get_or u k false) (YieldsList-at c.filter.ensures.source (YieldsList-from_range 0 O O (cc) (omega arith))) c.filter.ensures.closure (λ x r q k. search rules))
    ∙ length-filter (λ k. get_or u k false) (range_with_len 0 O)
    ∙ ones_from u O
