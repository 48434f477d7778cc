-- The one proof of all that specs/Claims.antt claims. Assumes nothing.
use Rattle.subsets.proofs.Claims as subsets
use Rattle.delegates.specs.Claims.{Claims}
use Rattle.delegates.proofs.Alike as alike
use Rattle.delegates.proofs.Acceptance as acceptance
use Rattle.delegates.proofs.Classes.{near_alike}

pub claims : Claims
claims = record {
  merged = acceptance.merged subsets.claims;
  alike_at = near_alike;
  singles = acceptance.named_single subsets.claims;
  alike_self = alike.alike_self;
  alike_back = alike.alike_back;
  alike_on = alike.alike_on;
  final_live = alike.final_live;
  none_live = alike.none_live;
  none_start = alike.none_start;
  live_alike = alike.live_alike;
  dead_alike = alike.dead_alike;
  live_law = acceptance.live_law subsets.claims;
  one_delegate = alike.one_delegate;
  same_delegate = alike.same_delegate;
  own_delegate = alike.own_delegate;
  delegates_start = alike.delegates_start;
  delegates_in_lem = alike.delegates_in_lem;
  one_list = alike.one_list;
}
