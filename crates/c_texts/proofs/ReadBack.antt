-- What making a text answers, as numbers and read back from them. Assumes nothing.
use Rattle.std.proofs.Common.{Result}
use mathlib.Core.Path.{◌≡◌, ap}
use mathlib.Core.List.{List}
use Prim.Native.Nat.{ℕ}
use Rattle.base.specs.Answers.{result_number}
use Rattle.flags.proofs.Flags as flags
use Rattle.base.specs.declared.Refusal.{Refusal}
use Rattle.flags.specs.declared.AnswerFlags.{AnswerFlags}
use Rattle.flags.specs.Flags.{flag_by, refused_by}
use Rattle.madetexts.specs.Making.{Makes}
use Rattle.c_texts.specs.Numbers.{made_shown, MakesShown}
use Rattle.c_texts.specs.Claims.{Claims}

pub makes : (k seed : ℕ) (before : List ℕ) (a : Result (Unit {0}) Refusal) (after : List ℕ) (r : AnswerFlags) → r.accepted ≡ flag_by (result_number a) → r.refused ≡ refused_by (result_number a)
    → Makes k seed before a after → MakesShown k seed before (record { accepted = r.accepted; refused = r.refused }) after
makes k seed before a after r flag number m = record { answer = rw (flag, number) (ap made_shown m.answer); buffer = m.buffer }

pub claims : Claims
claims = record { flags = (flags.claims).flags; made_read_back_lem = (flags.claims).refusal_back }
