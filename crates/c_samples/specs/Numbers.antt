-- The numbers that C gives and is given for a sample. Every field is fixed.
--
--   wish_of number       the wish that C names by the number: 0 accepted, any other rejected
--   kind_of, refused_of   the kind of an answer: 0 refused, 1 a text, 2 none; and the number of a
--                        refusal, else 0
--   sample_shown o       the answer o, with the length and the text as they are
--   sample_read_back r   what such a result says, read back from its numbers
use Rattle.std.specs.Prelude.{cond, ℕ, eqb}
use Rattle.samples.specs.declared.Wish.{Wish}
use Rattle.samples.specs.declared.Wish.TheVariants.{Accepted, Rejected}
use Rattle.samples.specs.Values.{Reply, found, none_there, refused, Outcome}
use Rattle.c_samples.specs.declared.SampleNumbers.{SampleNumbers}

abbrev pub wish_of : ℕ → Wish
wish_of number = cond (eqb number 0) Accepted Rejected

abbrev pub kind_of : Reply → ℕ
kind_of (refused x) = 0
kind_of found = 1
kind_of none_there = 2

abbrev pub refused_of : Reply → ℕ
refused_of (refused x) = x
refused_of found = 0
refused_of none_there = 0

abbrev pub sample_shown : Outcome → SampleNumbers
sample_shown o = record {
  kind = kind_of o.reply;
  refused = refused_of o.reply;
  length = o.length;
  text = o.text;
}

abbrev pub reply_by : ℕ → ℕ → Reply
reply_by kind number = cond (eqb kind 0) (refused number) (cond (eqb kind 1) found none_there)

abbrev pub sample_read_back : SampleNumbers → Outcome
sample_read_back r = record { reply = reply_by r.kind r.refused; length = r.length; text = r.text }
