-- The law of the numbers: by that of the flags, and by cases. Assumes nothing.
use mathlib.Core.Path.{◌≡◌, refl}
use mathlib.Core.Option.{Option, none, some}
use Prim.Native.Nat.{ℕ}
use Rattle.flags.proofs.Flags as flags
use Rattle.calls.specs.Replies.{Judgement, waiting, yes_with, no_with, refused_with, Reported}
use Rattle.summaries.specs.declared.Summary.{Summary}
use Rattle.summaries.specs.Summaries.{Summarized}
use Rattle.c_summaries.specs.Numbers.{summary_shown, conclude_shown, summary_read_back, conclude_read_back, Claims}

summary_back : (s : Summarized) → summary_read_back (summary_shown s) ≡ s
summary_back s = of s.refusal s.summary
  where
    of : (o : Option ℕ) (a : Summary) → summary_read_back (summary_shown (record { refusal = o; summary = a })) ≡ record { refusal = o; summary = a }
    of none a = refl
    of (some x) a = refl

report_back : (r : Reported) → conclude_read_back (conclude_shown r) ≡ r
report_back r = of r.verdict
  where
    of : (v : Judgement)
        → conclude_read_back (conclude_shown (record { verdict = v; bytes = r.bytes; quotient = r.quotient; remainder = r.remainder }))
        ≡ record { verdict = v; bytes = r.bytes; quotient = r.quotient; remainder = r.remainder }
    of (waiting empty) = refl
    of (yes_with count) = refl
    of (no_with count) = refl
    of (refused_with number) = refl

pub claims : Claims
claims = record {
  flags = λ s. (flags.claims).flags s.refusal;
  summary = λ s. refl;
  refused = λ x b q m. refl;
  waits = λ empty b q m. refl;
  says_yes_lem = λ count b q m. refl;
  says_no_lem = λ count b q m. refl;
  summary_back = summary_back;
  report_back = report_back;
}
