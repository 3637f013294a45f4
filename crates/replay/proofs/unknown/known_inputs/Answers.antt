use Rattle.std.proofs.Common.{◌<◌, false, List, [], ◌∷◌, ◌++◌, map, length, get_or, sym, ap, ◌∙◌, arith, lit<, length-append}
use Rattle.std.proofs.lemmas.List.{map_push, map_more, take_all}
use Rattle.inline_list.specs.Listed.{listed}
use Rattle.inline_list.proofs.Few.{pushed}
use Rattle.signal_value.specs.Possible.{Possible, only}
use Rattle.signal_value.specs.Kept.{known}
use Rattle.replay.proofs.unknown.known_inputs.Goals as goal

pub loop-bit-preserved : goal.loop-bit-preserved
loop-bit-preserved c =
    let bits = c.args.inputs.now in
    let k = c.loop-bit.bit-index in
    let vs = listed c.loop-bit.known in
    let room : length vs < 64 = omega (arith, c.requires, c.loop-bit.invariant.one_each, c.loop-bit-test.true) in
    let now = pushed 64 vs (listed c.push.new.self) c.constant.result _ c.push.ensures.room c.push.ensures.after room in
    record {
      one_each = ap length now ∙ length-append vs (c.constant.result ∷ []) ∙ omega (arith, c.loop-bit.invariant.one_each);
      known_so_far =
          ap (map known) now
          ∙ map_push known vs c.constant.result
          ∙ ap (λ P. map known vs ++ P ∷ []) (c.constant.ensures 0 (lit< tt))
          ∙ ap (λ (l : List Possible). l ++ only (get_or bits k false) ∷ []) c.loop-bit.invariant.known_so_far
          ∙ sym (map_more only bits k false c.loop-bit-test.true);
    }

pub returns : goal.returns
returns c = c.loop-bit.invariant.known_so_far ∙ ap (map only) (take_all c.loop-bit.bit-index c.args.inputs.now c.loop-bit-test.false)
