-- The numbers that C is given by summaries. Every field is fixed: what an answer has no use for is
-- 0. A summary stands as it is.
--
--   summary_shown s    the summary, or the number of the refusal
--   conclude_shown r   what is concluded: the kind and the number, and the bytes, the quotient and
--                      the remainder beside them; no kind other than 0, 2 and 3 is concluded
--   summary_read_back, conclude_read_back  what such a result says, read back from its numbers
--   Concluded v k x    a report with the verdict v is shown as kind k with the number x, and its
--                      other numbers as they are
--   Claims             every field, case by case, and that nothing is lost by it;
--                      proofs/Numbers.antt proves it
use Rattle.std.specs.Prelude.{◌≡◌, cond, ℕ, eqb}
use Rattle.verdicts.specs.Shown.{kind_of, number_of}
use Rattle.flags.specs.Flags.{flag_by, refused_by, refusal_by, FlagLaw}
use Rattle.calls.specs.Replies.{Judgement, waiting, yes_with, no_with, refused_with, Reported}
use Rattle.summaries.specs.Summaries.{Summarized}
use Rattle.c_summaries.specs.declared.SummaryNumbers.{SummaryNumbers}
use Rattle.c_summaries.specs.declared.ConcludeNumbers.{ConcludeNumbers}

abbrev pub summary_shown : Summarized → SummaryNumbers
summary_shown s = record { accepted = flag_by s.refusal; refused = refused_by s.refusal; summary = s.summary }

abbrev pub conclude_shown : Reported → ConcludeNumbers
conclude_shown r = record {
  kind = kind_of r.verdict;
  number = number_of r.verdict;
  bytes = r.bytes;
  quotient = r.quotient;
  remainder = r.remainder;
}

abbrev pub summary_read_back : SummaryNumbers → Summarized
summary_read_back r = record { refusal = refusal_by r.accepted r.refused; summary = r.summary }

abbrev pub conclude_read_back : ConcludeNumbers → Reported
conclude_read_back r = record {
  verdict =
      cond (eqb r.kind 0) (refused_with r.number)
      (cond (eqb r.kind 1) (waiting r.number) (cond (eqb r.kind 2) (yes_with r.number) (no_with r.number)));
  bytes = r.bytes;
  quotient = r.quotient;
  remainder = r.remainder;
}

abbrev pub Concluded : Judgement → ℕ → ℕ → Type 0
Concluded v kind number =
    (b q m : ℕ) → conclude_shown (record { verdict = v; bytes = b; quotient = q; remainder = m })
    ≡ record { kind = kind; number = number; bytes = b; quotient = q; remainder = m }

pub record Claims : Type 0 where
  -- accepted and refused are by the number, and the summary is the one that is answered
  pub flags : (s : Summarized) → FlagLaw s.refusal (summary_shown s).accepted (summary_shown s).refused
  pub summary : (s : Summarized) → (summary_shown s).summary ≡ s.summary
  -- the kinds
  pub refused : (x : ℕ) → Concluded (refused_with x) 0 x
  pub waits : (empty : ℕ) → Concluded (waiting empty) 1 empty
  pub says_yes_lem : (count : ℕ) → Concluded (yes_with count) 2 count
  pub says_no_lem : (count : ℕ) → Concluded (no_with count) 3 count
  -- nothing is lost
  pub summary_back : (s : Summarized) → summary_read_back (summary_shown s) ≡ s
  pub report_back : (r : Reported) → conclude_read_back (conclude_shown r) ≡ r
