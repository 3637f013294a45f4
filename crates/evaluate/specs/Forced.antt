-- Values forced on gates, and what they stand for in a lane.
--   forced_at      the value forced on the gate of a number, if there is one: the first in the list
--   in_lane        what values stand for in a lane
--   lane_forcing   what is forced on a gate, in a lane
use Rattle.std.specs.Prelude.{ℕ, cond, List, [], ◌∷◌, map, Some, None, Option, ◌==◌}
use Rattle.std.specs.Option.{option_map}
use Rattle.signal_value.specs.Possible.{Possible}
use Rattle.evaluation.specs.Evaluated.{Forcing}
use Rattle.evaluate.specs.declared.forced.Forced.{Forced}

abbrev pub forced_at : {L : Type 0} → List (Forced L) → ℕ → Option L
forced_at [] n = None
forced_at (f ∷ fs) n = cond (n == f.gate) (Some f.value) (forced_at fs n)

abbrev pub in_lane : {L : Type 0} → (L → ℕ → Possible) → ℕ → List L → List Possible
in_lane stands i vs = map (λ v. stands v i) vs

abbrev pub lane_forcing : {L : Type 0} → (L → ℕ → Possible) → ℕ → List (Forced L) → Forcing
lane_forcing stands i fs n = option_map (λ v. stands v i) (forced_at fs n)
