use Rattle.std.proofs.Common.{eqb, ap, ◌∙◌, rules}
use Rattle.std.specs.Option.{option_map}
use Rattle.std.proofs.lemmas.Iterator.{YieldsList-from_slice}
use Rattle.std.proofs.lemmas.Iterator.Search.{find_from_yields_List}
use Rattle.evaluate.proofs.ForcedPlaces.{value_found, mapped}
use Rattle.evaluate.proofs.walk.forced_at.Goals as goal

pub returns : goal.returns
returns g c =
    mapped (λ f. f.value) c.find.result c.map.result _ c.map.ensures.cases (λ x y p. search rules)
    ∙ ap (option_map (λ f. f.value)) (find_from_yields_List (λ f. eqb c.args.number f.gate) _ _ c.find.result c.find.ensures.ran (YieldsList-from_slice c.args.forced.now cc) (λ x b q k. search rules))
    ∙ value_found c.args.forced.now c.args.number
