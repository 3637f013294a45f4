-- What the records left give, after those that were taken, is what the whole log gives.
use Rattle.std.proofs.Common.{◌≡◌, length}
use Rattle.circuit.specs.Held.{circuit_of}
use Rattle.test_format.specs.Logs.{pieces}
use Rattle.testlog.specs.Held.{tests_of}
use Rattle.inspect.specs.Records.{first_refusal, held_after}
use Rattle.inspect.proofs.log.record_all.Given as goal

abbrev pub invariant-loop-rest : goal.invariant-loop-rest
invariant-loop-rest l =
    let c = circuit_of l.circuit in
    (first_refusal c (tests_of l.tests) (pieces c l.rest) ≡ first_refusal c (tests_of l.initial.tests) (pieces c l.initial.rest))
    × (held_after c (tests_of l.tests) (pieces c l.rest) ≡ held_after c (tests_of l.initial.tests) (pieces c l.initial.rest))

abbrev pub decreases-loop-rest : goal.decreases-loop-rest
decreases-loop-rest l = length l.rest
