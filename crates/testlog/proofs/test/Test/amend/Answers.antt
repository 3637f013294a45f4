use Rattle.std.proofs.Common.{Bool, List, Option, ap, sym, ◌∙◌}
use Rattle.test_format.proofs.Holding.{set_nowhere}
use Rattle.testlog.specs.Held.{test_of}
use Rattle.testlog.proofs.test.Test.amend.Goals as goal

pub returns-in-None-clause-after : goal.returns-in-None-clause-after
returns-in-None-clause-after c =
    let t = test_of c.args.self.now in
    ap (λ (os : List (Option Bool)). record { inputs = t.inputs; outputs = os })
    (c.replace.ensures.after ∙ set_nowhere t.outputs c.in_ok-at.at c.args.reading (sym c.in-None.ensures.before))
