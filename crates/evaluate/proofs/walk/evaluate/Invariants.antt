use Rattle.std.proofs.Common.{◌≡◌, ℕ, suc, ◌<◌, ◌≤◌, [], map, length, take, drop}
use Rattle.circuit.specs.Circuits.{gate_of}
use Rattle.evaluation.specs.Evaluated.{evaluate_from}
use Rattle.evaluate.specs.Forced.{in_lane, lane_forcing}
use Rattle.evaluate.proofs.walk.evaluate.Given as goal

abbrev pub invariant-loop-i : goal.invariant-loop-i
invariant-loop-i g l =
    (length l.gates ≤ 256)
    × (length l.values ≡ 256)
    × ((k : ℕ) → k < g.L.Logic.LANES
    → evaluate_from (lane_forcing g.L.Logic.stands k l.forced) (in_lane g.L.Logic.stands k l.inputs) (suc l.i) (in_lane g.L.Logic.stands k (take l.i l.values)) (map gate_of (drop l.i l.gates))
    ≡ evaluate_from (lane_forcing g.L.Logic.stands k l.forced) (in_lane g.L.Logic.stands k l.inputs) 1 [] (map gate_of l.gates))
