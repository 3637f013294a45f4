use Rattle.std.proofs.Common.{◌≡◌, ◌++◌, map, take, drop}
use Rattle.signal_value.specs.Kept.{known, byte_of}
use Rattle.evaluation.specs.Evaluated.{standing}
use Rattle.replay.proofs.unknown.write_signals.Given as goal

abbrev pub invariant-loop-i : goal.invariant-loop-i
invariant-loop-i l = l.buffer ≡ map (λ o. byte_of (standing (map known l.inputs) (map known l.values) o)) (take l.i l.signals) ++ drop l.i l.initial.buffer
