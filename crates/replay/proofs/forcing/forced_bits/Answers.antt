use Rattle.std.proofs.Common.{◌+◌, ◌/◌, ◌<◌, ◌++◌, length, drop, sym, ap, ◌∙◌, arith, length-append}
use Rattle.std.proofs.lemmas.List.{append-nil, append_assoc, at_drop_all}
use Rattle.inline_list.specs.Listed.{listed}
use Rattle.inline_list.proofs.Few.{pushed}
use Rattle.replay.specs.ForcedSets.{forced_bits}
use Rattle.replay.proofs.Forcings.{bits_more}
use Rattle.replay.proofs.forcing.forced_bits.Goals as goal

pub loop-gate-preserved : goal.loop-gate-preserved
loop-gate-preserved c =
    let S = c.args.set.now in
    let k = c.loop-gate.gate-index in
    let fs = listed c.loop-gate.forced in
    let room : length fs < 8 = omega (arith, c.requires, c.loop-gate.invariant.one_each, c.loop-gate-test.true) in
    let now = pushed 8 fs (listed c.push.new.self) _ _ c.push.ensures.room c.push.ensures.after room in
    record {
      one_each = ap length now ∙ length-append fs _ ∙ omega (arith, c.loop-gate.invariant.one_each);
      forced_so_far =
          ap (λ l. l ++ forced_bits (drop (k + 1) S) (c.loop-gate.rest / 2)) now
          ∙ append_assoc fs _ (forced_bits (drop (k + 1) S) (c.loop-gate.rest / 2))
          ∙ ap (λ l. fs ++ l) (bits_more S k 0 c.loop-gate.rest c.loop-gate-test.true)
          ∙ c.loop-gate.invariant.forced_so_far;
    }

pub returns : goal.returns
returns c =
    let S = c.args.set.now in
    let fs = listed c.loop-gate.forced in
    sym (append-nil fs) ∙ ap (λ l. fs ++ l) (sym (at_drop_all (λ l. forced_bits l c.loop-gate.rest) S c.loop-gate.gate-index c.loop-gate-test.false)) ∙ c.loop-gate.invariant.forced_so_far
