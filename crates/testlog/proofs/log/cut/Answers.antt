use Rattle.std.proofs.Common.{◌≡◌, ℕ, ◌<◌, ◌⊎◌, List, length, ap, ◌∙◌, inl, inr}
use Rattle.circuit.specs.declared.gate.Signal.{Signal}
use Rattle.circuit.specs.Held.{circuit_of}
use Rattle.test_format.specs.Records.{record_length}
use Rattle.test_format.specs.Logs.{required}
use Rattle.test_format.proofs.Cutting.{first_part, first_whole}
use Rattle.test_format.proofs.Pieces.{rest_shorter, cut_pieces}
use Rattle.testlog.proofs.log.cut.Goals as goal

pub returns-then-required-eq0 : goal.returns-then-required-eq0
returns-then-required-eq0 c =
    let k = circuit_of c.args.circuit.now in
    let log : List ℕ = c.args.log.now in
    let n = c.record_len-required.result in
    let is : n ≡ required k log = c.record_len-required.ensures ∙ ap (λ I. record_length I (length c.outputs.result.now) log) c.inputs.ensures ∙ ap (λ (os : List Signal). record_length k.inputs (length os) log) c.outputs.ensures in
    let way : (n ≡ 0) ⊎ (length log < n) = elim c.then-required-eq0.either [ inl z ↦ inl z | inr l ↦ inr l.1 ] in
    let cut = first_whole k log n is way in
    let first = c.split_at.ensures.front ∙ cut.0 in
    let rest = c.split_at.ensures.back ∙ cut.1 in
    record { first = first; rest = rest; shorter = rest_shorter k log c.split_at.result.1.now rest; pieces = cut_pieces k log c.split_at.result.0.now c.split_at.result.1.now first rest }

pub returns : goal.returns
returns c =
    let k = circuit_of c.args.circuit.now in
    let log : List ℕ = c.args.log.now in
    let n = c.record_len-required.result in
    let is : n ≡ required k log = c.record_len-required.ensures ∙ ap (λ I. record_length I (length c.outputs.result.now) log) c.inputs.ensures ∙ ap (λ (os : List Signal). record_length k.inputs (length os) log) c.outputs.ensures in
    let cut = first_part k log n is c.if-required-eq0.false in
    let first = c.split_at-2.ensures.front ∙ cut.0 in
    let rest = c.split_at-2.ensures.back ∙ cut.1 in
    record { first = first; rest = rest; shorter = rest_shorter k log c.split_at-2.result.1.now rest; pieces = cut_pieces k log c.split_at-2.result.0.now c.split_at-2.result.1.now first rest }
