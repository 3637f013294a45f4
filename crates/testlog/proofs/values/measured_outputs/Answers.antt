use Rattle.std.proofs.Common.{◌≡◌, ◌+◌, ◌<◌, Bool, false, List, [], ◌∷◌, ◌++◌, length, get_or, drop, Some, None, Option, sym, ap, ◌∙◌, arith, length-append}
use Rattle.std.proofs.lemmas.List.{length-take-le, get_or-take}
use Rattle.inline_list.specs.Listed.{listed}
use Rattle.inline_list.proofs.Few.{pushed}
use Rattle.test_format.specs.Packing.{unpack}
use Rattle.test_format.specs.Records.{map_of, filled}
use Rattle.test_format.proofs.Packed.{length_unpack}
use Rattle.test_format.proofs.Filling.{filled_marked, filled_unmarked, filled_all}
use Rattle.testlog.proofs.values.measured_outputs.Goals as goal
use Rattle.testlog.proofs.values.measured_outputs.Goals.{then-bit_at, else-bit_at}

pub loop-i-preserved : goal.loop-i-preserved
loop-i-preserved c =
    let u = unpack c.args.map.now in
    let ms = map_of c.args.count c.args.map.now in
    let vs = unpack c.args.values.now in
    let i = c.loop-i.i in
    let os : List (Option Bool) = listed c.loop-i.outputs in
    let inv = c.loop-i.invariant in
    let long : length ms ≡ c.args.count = length-take-le c.args.count u (omega (arith, length_unpack c.args.map.now)) in
    let marked : get_or ms i false ≡ get_or u i false = get_or-take c.args.count u i false c.loop-i-test.true in
    let room : length os < 64 = omega (arith, inv.one_each) in
    let here : i < length ms = omega arith in
    let behind = drop (i + 1) ms in
    elim c.if-bit_at.branch [
      | then-bit_at w ↦
          let value : Option Bool = Some (get_or vs c.loop-i.next false) in
          let now : listed c.if-bit_at.outputs ≡ os ++ value ∷ [] = ap listed w.outputs-is ∙ pushed 64 os _ _ _ w.push.ensures.room w.push.ensures.after room ∙ ap (λ b. os ++ Some b ∷ []) w.bit_at-then-bit_at.ensures in
          record {
            read =
                ap (λ (o : List (Option Bool)). o ++ filled behind (drop c.if-bit_at.next vs)) now
                ∙ ap (λ n. (os ++ value ∷ []) ++ filled behind (drop n vs)) w.next-is
                ∙ filled_marked ms vs i c.loop-i.next os here (marked ∙ sym w.if-bit_at.ensures)
                ∙ inv.read;
            one_each = ap length now ∙ length-append os (value ∷ []) ∙ omega (arith, inv.one_each);
            few_values = omega (arith, w.next-is, inv.few_values);
          }
      | else-bit_at w ↦
          let now : listed c.if-bit_at.outputs ≡ os ++ None ∷ [] = ap listed w.outputs-is ∙ pushed 64 os _ _ _ w.push-else-bit_at.ensures.room w.push-else-bit_at.ensures.after room in
          record {
            read =
                ap (λ (o : List (Option Bool)). o ++ filled behind (drop c.if-bit_at.next vs)) now
                ∙ ap (λ n. (os ++ None ∷ []) ++ filled behind (drop n vs)) w.next-is
                ∙ filled_unmarked ms (drop c.loop-i.next vs) i os here (marked ∙ sym w.if-bit_at.ensures)
                ∙ inv.read;
            one_each = ap length now ∙ length-append os (None ∷ []) ∙ omega (arith, inv.one_each);
            few_values = omega (arith, w.next-is, inv.few_values);
          }
    ]

pub returns : goal.returns
returns c =
    let u = unpack c.args.map.now in
    let ms = map_of c.args.count c.args.map.now in
    let i = c.loop-i.i in
    let long : length ms ≡ c.args.count = length-take-le c.args.count u (omega (arith, length_unpack c.args.map.now)) in
    sym (filled_all ms (drop c.loop-i.next (unpack c.args.values.now)) i (listed c.loop-i.outputs) (omega arith)) ∙ c.loop-i.invariant.read
