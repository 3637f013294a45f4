-- No record is left: what was taken is what the log gives.
use Rattle.std.proofs.Common.{◌≡◌, ℕ, List, [], ◌∷◌, length, refl, sym, ap, ◌∙◌, eqb-true, arith}
use Rattle.circuit.specs.Circuits.{Circuit}
use Rattle.circuit.specs.Held.{circuit_of}
use Rattle.test_format.specs.Logs.{pieces_in, pieces}
use Rattle.testlog.specs.Held.{tests_of}
use Rattle.inspect.specs.Records.{first_refusal, held_after}
use Rattle.inspect.proofs.log.record_all.Goals as goal

no_pieces : (c : Circuit) (log : List ℕ) → length log ≡ 0 → pieces c log ≡ []
unfolding pieces_in
no_pieces c [] e = refl
no_pieces c (b ∷ log) e = absurd (omega arith)

pub returns-clause-refused : goal.returns-clause-refused
returns-clause-refused c =
    let k = circuit_of c.args.circuit.now in
    let none = no_pieces k c.loop-rest.rest.now (eqb-true _ 0 (sym c.loop-rest-test.ensures)) in
    sym (ap (first_refusal k (tests_of c.loop-rest.tests)) none) ∙ c.loop-rest.invariant.0

pub returns-clause-after : goal.returns-clause-after
returns-clause-after c =
    let k = circuit_of c.args.circuit.now in
    let none = no_pieces k c.loop-rest.rest.now (eqb-true _ 0 (sym c.loop-rest-test.ensures)) in
    sym (ap (held_after k (tests_of c.loop-rest.tests)) none) ∙ c.loop-rest.invariant.1
