use Rattle.std.proofs.Common.{sym, ◌∙◌, rules}
use Rattle.std.proofs.lemmas.Iterator.{YieldsList-from_slice}
use Rattle.std.proofs.lemmas.Iterator.Search.{all_from_yields_List}
use Rattle.std.proofs.lemmas.List.Folds.{list_all-map}
use Rattle.gate_set.specs.Held.{set_of}
use Rattle.gate_set.specs.Ascending.{above}
use Rattle.lister.proofs.asked.are_sets.Goals as goal

pub returns : goal.returns
returns c =
    let p = above 0 c.args.gates in
    all_from_yields_List (λ s. p (set_of s)) _ _ _ c.all.ensures.ran (YieldsList-from_slice c.args.sets.now cc) (λ x b q k. search rules) ∙ sym (list_all-map p set_of c.args.sets.now)
