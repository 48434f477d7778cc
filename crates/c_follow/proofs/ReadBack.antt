-- The numbers that C is given, read back: by cases of the answer. Assumes nothing.
use mathlib.Core.Path.{◌≡◌, refl, ap}
use mathlib.Core.Logic.{inl, inr}
use mathlib.Core.Bool.{Bool}
use mathlib.Core.Option.{Option, none, some}
use Prim.Native.Nat.{ℕ}
use Rattle.follow.specs.declared.Follower.{Follower}
use Rattle.base.proofs.Options.{none-some}
use Rattle.base.proofs.Tests.{zero_one}
use Rattle.flags.proofs.Flags as flags
use Rattle.c_follow.specs.Numbers.{lost_flag, at_by, follow_shown, follow_read_back, prepare_shown, prepare_read_back}
use Rattle.c_follow.specs.Claims.{LostLaw, Claims}

lost_law : (place : Option ℕ) → LostLaw place (lost_flag place) (at_by place)
lost_law none = record {
  one_or_zero = inr refl;
  never_exactly = (λ e. refl, λ e. refl);
  no_place = λ e. refl;
  lost_exactly = λ b. (λ e. zero_one cc, λ e. none-some refl e);
}
lost_law (some place) = record {
  one_or_zero = inl refl;
  never_exactly = (λ e. zero_one cc, λ e. none-some e refl);
  no_place = λ e. zero_one cc;
  lost_exactly = λ b. (λ e. ap some e.1, λ e. (refl, cc));
}

back : (refusal lost : Option ℕ) (ends complete : Bool) (set expected : ℕ)
    → follow_read_back (follow_shown (record { refusal = refusal; set = set; ends = ends; lost = lost; expected = expected; complete = complete }))
    ≡ record { refusal = refusal; set = set; ends = ends; lost = lost; expected = expected; complete = complete }
back none none ends complete set expected = rw ((flags.claims).bit_back ends, (flags.claims).bit_back complete)
back none (some b) ends complete set expected = rw ((flags.claims).bit_back ends, (flags.claims).bit_back complete)
back (some x) none ends complete set expected = rw ((flags.claims).bit_back ends, (flags.claims).bit_back complete)
back (some x) (some b) ends complete set expected = rw ((flags.claims).bit_back ends, (flags.claims).bit_back complete)

prepared_back : (refusal : Option ℕ) (f : Follower) → prepare_read_back (prepare_shown (record { refusal = refusal; follower = f })) ≡ record { refusal = refusal; follower = f }
prepared_back none f = refl
prepared_back (some x) f = refl

pub claims : Claims
claims = record {
  flags = λ o. (flags.claims).flags o.refusal;
  ends = λ o. (flags.claims).bits o.ends;
  complete = λ o. (flags.claims).bits o.complete;
  lost = λ o. lost_law o.lost;
  values = λ o. (refl, refl);
  prepared_flags = λ p. (flags.claims).flags p.refusal;
  follower = λ p. refl;
  read_back = λ o. back o.refusal o.lost o.ends o.complete o.set o.expected;
  prepared_read_back = λ p. prepared_back p.refusal p.follower;
}
