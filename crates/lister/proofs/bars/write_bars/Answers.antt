-- One more set's clause.
use Rattle.lister.proofs.Barring.{set_here}
use Rattle.lister.proofs.bars.write_bars.Goals as goal

pub write_bar-requires : goal.write_bar-requires
write_bar-requires g c = record { ready = c.loop-set.invariant.0; numbers = set_here c.args.sets.now c.loop-set.set-index c.set-item.result c.loop-set-test.true c.set-item.is c.requires.numbers }
