-- The one proof of all that specs/Claims.antt claims. Assumes nothing.
use Rattle.std.proofs.Common.{◌↔◌, sym, subst}
use Rattle.masks.specs.Masks.{◌∈◌}
use Rattle.automaton.specs.Rules.{automaton_of}
use Rattle.delegates.specs.Alike.{Live}
use Rattle.live.proofs.Rounds.{live_law}
use Rattle.follow.specs.declared.Follower.{Follower}
use Rattle.follow.specs.Claims.{Claims}
use Rattle.follow.proofs.Examples.{answered}
use Rattle.follow.proofs.Numbers as numbers
use Rattle.follow.proofs.Lists as lists
use Rattle.follow.proofs.Ways as ways
use Rattle.follow.proofs.Cuts.{cut, followed_cut}

pub claims : Claims
claims = record {
  answered = answered;
  numbers = numbers.numbers;
  refused = λ r m w x. numbers.refused r w m x;
  accepted = λ r m w. numbers.follow_is r w m;
  prepared = ways.prepared;
  by_any = ways.by_any;
  lives = λ r e q.
      subst (λ (f : Follower). q ∈ f.live ↔ Live (automaton_of r) q) (sym (ways.follower_is r e)) (live_law r ((ways.prepared r).accepted.0 e) q);
  followed_cut = followed_cut;
  cut = cut;
  one = lists.one;
  followed = lists.followed;
  for_good = lists.for_good;
  means_nothing = λ r l m w same. lists.means_nothing r l m same w;
  all_taken = lists.all_taken;
}
