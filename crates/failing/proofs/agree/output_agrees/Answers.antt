use Rattle.std.proofs.Common.{ap, ◌∙◌}
use Rattle.signal_value.specs.Possible.{only}
use Rattle.diagnosis.specs.Explains.{agrees}
use Rattle.failing.proofs.InLanes.{signal_in_lane}
use Rattle.failing.proofs.agree.output_agrees.Goals as goal

pub returns : goal.returns
returns c = c.is_as_measured.ensures ∙ ap (agrees c.args.measured) (signal_in_lane c.args.t c.args.inputs.now c.args.values.now c.args.signal c.lane.result (ap only c.lane.ensures ∙ c.value_of.ensures c.args.t c.requires))
