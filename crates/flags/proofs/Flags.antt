-- The law of the fields that the answers for C have in common, by cases. Assumes nothing.
use mathlib.Core.Path.{◌≡◌, refl, ap}
use mathlib.Core.Logic.{inl, inr}
use mathlib.Core.Bool.{Bool, true, false}
use mathlib.Core.Option.{Option, none, some}
use Prim.Native.Nat.{ℕ}
use lib.Dec.{eqb}
use Rattle.base.proofs.Options.{none-some}
use Rattle.base.proofs.Tests.{zero_one}
use Rattle.flags.specs.Flags.{flag_by, refused_by, bit_by, refusal_by, FlagLaw, BitLaw, Claims}

flags : (number : Option ℕ) → FlagLaw number (flag_by number) (refused_by number)
flags none = record {
  one_or_zero = inl refl;
  accepted_exactly = (λ e. refl, λ e. refl);
  no_number = λ e. refl;
  refused_exactly = λ x. (λ e. zero_one cc, λ e. none-some refl e);
}
flags (some number) = record {
  one_or_zero = inr refl;
  accepted_exactly = (λ e. zero_one cc, λ e. none-some e refl);
  no_number = λ e. zero_one cc;
  refused_exactly = λ x. (λ e. ap some e.1, λ e. (refl, cc));
}

bits : (test : Bool) → BitLaw test (bit_by test)
bits true = record { one_or_zero = inl refl; one_exactly = (λ e. refl, λ e. refl) }
bits false = record { one_or_zero = inr refl; one_exactly = (λ e. zero_one cc, λ e. zero_one cc) }

refusal_back : (number : Option ℕ) → refusal_by (flag_by number) (refused_by number) ≡ number
refusal_back none = refl
refusal_back (some number) = refl

bit_back : (test : Bool) → eqb (bit_by test) 1 ≡ test
bit_back true = refl
bit_back false = refl

pub claims : Claims
claims = record { flags = flags; bits = bits; refusal_back = refusal_back; bit_back = bit_back }
