-- The one proof of all that specs/Filled.antt claims. Assumes nothing.
use Rattle.fillings.specs.Filled.{Claims}
use Rattle.fillings.proofs.Boards as boards
use Rattle.fillings.proofs.Deliveries as deliveries

pub claims : Claims
claims = record {
  filled = boards.filled;
  fillings = boards.fillings;
  taken = boards.taken;
  none_missing = boards.none_missing;
  text_is = boards.text_is;
  well = deliveries.well;
  installs = deliveries.installs;
  as_delivered = deliveries.as_delivered;
}
