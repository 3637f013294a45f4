-- The order of sets is strict and total.
use Rattle.diagnosis.proofs.TotalOrder.{order_strict_total}
use Rattle.diagnosis.proofs.listing.order_is_strict_and_total.Goals as goal

pub returns : goal.returns
returns c = order_strict_total
