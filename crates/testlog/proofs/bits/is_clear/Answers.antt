use Rattle.std.proofs.Common.{◌-◌, ◌*◌, false, not, refl, length, get_or, ◌∙◌, rules, arith}
use Rattle.std.proofs.lemmas.Iterator.{YieldsList-from_range}
use Rattle.std.proofs.lemmas.Iterator.Search.{all_from_yields_List}
use Rattle.test_format.specs.Packing.{unpack}
use Rattle.test_format.proofs.Packed.{length_unpack}
use Rattle.testlog.proofs.Places.{clear_from}
use Rattle.testlog.proofs.bits.is_clear.Goals as goal

pub returns : goal.returns
returns c =
    let g = c.args.group.now in
    let i = c.args.from in
    let n = 8 * length g - i in
    all_from_yields_List (λ k. not (get_or (unpack g) k false)) _ _ _ c.all.ensures.ran (YieldsList-from_range i (8 * length g) n (cc) refl) (λ x r q k. search rules)
    ∙ clear_from (unpack g) i n (omega (arith, length_unpack g))
