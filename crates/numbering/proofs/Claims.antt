-- The one proof of all that specs/Claims.antt claims. Assumes nothing.
use Rattle.numbering.specs.Claims.{Claims}
use Rattle.numbering.proofs.Reached as reached
use Rattle.numbering.proofs.Order as order

pub claims : Claims
claims = record {
  sound = reached.sound;
  once = reached.once;
  complete = λ a seed n sinks most. reached.complete a seed n most sinks;
  cell = reached.cell;
  over = reached.over;
  in_order = order.in_order;
}
