use Rattle.std.proofs.Common.{◌≡◌, ℕ, ◌<◌, map, drop}
use Rattle.evaluation.specs.Evaluated.{standing}
use Rattle.evaluation.proofs.Folded.{combined_possible}
use Rattle.evaluate.specs.Connectives.{joins}
use Rattle.evaluate.specs.Forced.{in_lane}
use Rattle.evaluate.proofs.KindImages.{whole}
use Rattle.evaluate.proofs.walk.compute.Given as goal

abbrev pub invariant-loop-signal : goal.invariant-loop-signal
invariant-loop-signal g l =
    (i : ℕ) → i < g.L.Logic.LANES
    → combined_possible (joins l.connective) (g.L.Logic.stands l.combined i) (map (standing (in_lane g.L.Logic.stands i l.inputs) (in_lane g.L.Logic.stands i l.values)) (drop l.signal-index l.operands))
    ≡ whole l.connective (map (standing (in_lane g.L.Logic.stands i l.inputs) (in_lane g.L.Logic.stands i l.values)) l.operands)
