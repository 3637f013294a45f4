use Rattle.std.proofs.Common.{Bool, List, length, sym, ◌∙◌, rules}
use Rattle.std.proofs.lemmas.Bool.{ne_eqb}
use Rattle.std.specs.Iterator.Adapters.{zip_first, zip_second}
use Rattle.std.proofs.lemmas.Iterator.{YieldsList-from_slice, YieldsList-from_zip}
use Rattle.std.proofs.lemmas.Iterator.Search.{all_from_yields_List}
use Rattle.diagnosis.specs.Explains.{value, agrees}
use Rattle.failing.specs.Columns.{in_test}
use Rattle.failing.proofs.Agreed.{agree_lengths, agree_pairs}
use Rattle.failing.proofs.agree.outputs_agree.Goals as goal

pub returns-then-outputs-measured : goal.returns-then-outputs-measured
returns-then-outputs-measured c =
    let inputs : List Bool = in_test c.args.t c.args.inputs.now in
    let vs : List Bool = in_test c.args.t c.args.values.now in
    let pairs = c.zip-pairs.result in
    all_from_yields_List {s = pairs} (λ p. agrees p.1 (value inputs vs p.0)) c.all.new.self _ _ c.all.ensures.ran (YieldsList-from_zip {s = pairs} (YieldsList-from_slice {s = zip_first pairs} c.args.outputs.now (cc)) (YieldsList-from_slice {s = zip_second pairs} c.args.measured.now (cc))) (λ x b q k. search rules)
    ∙ agree_pairs inputs vs c.args.outputs.now c.args.measured.now c.if-outputs-measured.true

pub returns-else-outputs-measured : goal.returns-else-outputs-measured
returns-else-outputs-measured c =
    ne_eqb (length c.args.outputs.now) (length c.args.measured.now) c.if-outputs-measured.false
    ∙ sym (agree_lengths (in_test c.args.t c.args.inputs.now) (in_test c.args.t c.args.values.now) c.args.outputs.now c.args.measured.now c.if-outputs-measured.false)
