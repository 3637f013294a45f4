use Rattle.netlist_text.proofs.Taken.{taken_is_sound}
use Rattle.netlist_text.proofs.taken_is_sound.Goals as goal

pub returns : goal.returns
returns c = taken_is_sound
