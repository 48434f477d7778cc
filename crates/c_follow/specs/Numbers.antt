-- The numbers that C is given by following. Every field is fixed.
--
--   lost_flag x, at_by x  the fields `lost` and `at` for the place x where it is lost, or none: 1 and the
--                    place, or 0 and 0
--   follow_shown o   the answer o
--   prepare_shown p  what preparing answers: the follower is all zeros where it is refused
--   follow_read_back, prepare_read_back  what such numbers say, read back
use Rattle.std.specs.Prelude.{cond, ℕ, eqb}
use Rattle.std.proofs.Math.Option.{Option, none, some, get_or}
use Rattle.base.specs.Options.{is_none}
use Rattle.flags.specs.Flags.{flag_by, refused_by, bit_by, refusal_by}
use Rattle.follow.specs.Following.{Outcome, Prepared}
use Rattle.c_follow.specs.declared.FollowNumbers.{FollowNumbers}
use Rattle.c_follow.specs.declared.FollowerNumbers.{FollowerNumbers}

abbrev pub lost_flag : Option ℕ → ℕ
lost_flag place = cond (is_none place) 0 1

abbrev pub at_by : Option ℕ → ℕ
at_by place = get_or place 0

abbrev pub follow_shown : Outcome → FollowNumbers
follow_shown o = record {
  accepted = flag_by o.refusal;
  refused = refused_by o.refusal;
  ends = bit_by o.ends;
  lost = lost_flag o.lost;
  at = at_by o.lost;
  set = o.set;
  expected = o.expected;
  complete = bit_by o.complete;
}

abbrev pub prepare_shown : Prepared → FollowerNumbers
prepare_shown p = record { accepted = flag_by p.refusal; refused = refused_by p.refusal; follower = p.follower }

abbrev pub follow_read_back : FollowNumbers → Outcome
follow_read_back n = record {
  refusal = refusal_by n.accepted n.refused;
  set = n.set;
  ends = eqb n.ends 1;
  lost = cond (eqb n.lost 0) none (some n.at);
  expected = n.expected;
  complete = eqb n.complete 1;
}

abbrev pub prepare_read_back : FollowerNumbers → Prepared
prepare_read_back n = record { refusal = refusal_by n.accepted n.refused; follower = n.follower }
