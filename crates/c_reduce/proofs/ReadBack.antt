-- The numbers that C is given, read back: by cases of what reducing answers. Assumes nothing.
use mathlib.Core.Path.{◌≡◌, refl}
use mathlib.Core.Bool.{Bool, true, false}
use mathlib.Core.Option.{Option, none, some}
use Prim.Native.Nat.{ℕ}
use Rattle.flags.proofs.Flags as flags
use Rattle.automaton.specs.declared.Rule.{Rule}
use Rattle.c_reduce.specs.Numbers.{reduce_shown, reduce_read_back}
use Rattle.c_reduce.specs.Claims.{Claims}

back : (number : Option ℕ) (installs : Bool) (r : Rule)
    → reduce_read_back (reduce_shown (record { number = number; installs = installs; rule = r }))
    ≡ record { number = number; installs = installs; rule = r }
back none true r = refl
back none false r = refl
back (some x) true r = refl
back (some x) false r = refl

pub claims : Claims
claims = record {
  flags = λ m. (flags.claims).flags m.number;
  installs = λ m. (flags.claims).bits m.installs;
  rule = λ m. refl;
  reduce_read_back_lem = λ m. back m.number m.installs m.rule;
}
