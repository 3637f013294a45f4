-- The assumed literals name variables in use.
use Rattle.std.proofs.Common.{length, arith}
use Rattle.solver.proofs.Rows.{all_named_up}
use Rattle.ternary.proofs.TernarySearch.examine.Goals as goal

pub assumed_status-requires : goal.assumed_status-requires
assumed_status-requires c = all_named_up c.args.self.now.vars (length c.args.self.now.values.now) (omega (arith, c.requires.sound.in_range, c.requires.sound.values_len)) c.args.assumed.now c.requires.named
