-- The law is the one that is proved of written netlists.
use Rattle.netlist_text.proofs.ReadsBack.{reads_back}
use Rattle.netlist_text.proofs.written_reads_back.Goals as goal

pub returns : goal.returns
returns c = reads_back
