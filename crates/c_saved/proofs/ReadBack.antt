-- The numbers that C is given, read back: by cases of what restoring answers. Assumes nothing.
use mathlib.Core.Path.{◌≡◌, refl}
use mathlib.Core.Option.{Option, none, some}
use Prim.Native.Nat.{ℕ}
use Rattle.flags.proofs.Flags as flags
use Rattle.calls.specs.declared.Judge.{Judge}
use Rattle.c_saved.specs.Numbers.{restore_shown, restore_read_back}
use Rattle.c_saved.specs.Claims.{Claims}

back : (number : Option ℕ) (j : Judge)
    → restore_read_back (restore_shown (record { number = number; judge = j })) ≡ record { number = number; judge = j }
back none j = refl
back (some x) j = refl

pub claims : Claims
claims = record {
  flags = λ r. (flags.claims).flags r.number;
  judge = λ r. refl;
  restore_read_back_lem = λ r. back r.number r.judge;
}
