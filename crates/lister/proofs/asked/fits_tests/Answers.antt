use Rattle.std.proofs.Common.{sym, ◌∙◌, rules}
use Rattle.std.proofs.lemmas.Iterator.{YieldsList-from_slice}
use Rattle.std.proofs.lemmas.Iterator.Search.{all_from_yields_List}
use Rattle.std.proofs.lemmas.List.Folds.{list_all-map}
use Rattle.circuit.specs.Held.{circuit_of}
use Rattle.testlog.specs.Held.{test_of}
use Rattle.lister.specs.Asked.{fits_test}
use Rattle.lister.proofs.asked.fits_tests.Goals as goal

pub returns : goal.returns
returns c =
    let p = fits_test (circuit_of c.args.circuit.now) in
    all_from_yields_List (λ t. p (test_of t)) _ _ _ c.all.ensures.ran (YieldsList-from_slice c.args.tests.now cc) (λ x b q k. search rules) ∙ sym (list_all-map p test_of c.args.tests.now)
