-- The numbers that C is given for two rules compared. Every field is fixed.
--
--   kind_of, refused_of     the kind of an answer: 0 refused, 10 a text that the first rule alone
--                          accepts, 11 one that the second alone accepts, 12 the same texts; and the
--                          number of a refusal, else 0
--   comparison_shown o     the answer o, with the length and the text as they are
--   comparison_read_back r  what such a result says, read back from its numbers
use Rattle.std.specs.Prelude.{cond, ℕ, eqb}
use Rattle.compare.specs.declared.Which.TheVariants.{First, Second}
use Rattle.compare.specs.Values.{Reply, apart, same, refused, Outcome}
use Rattle.c_compare.specs.declared.CompareNumbers.{CompareNumbers}

abbrev pub kind_of : Reply → ℕ
kind_of (refused x) = 0
kind_of (apart First) = 10
kind_of (apart Second) = 11
kind_of same = 12

abbrev pub refused_of : Reply → ℕ
refused_of (refused x) = x
refused_of (apart which) = 0
refused_of same = 0

abbrev pub comparison_shown : Outcome → CompareNumbers
comparison_shown o = record {
  kind = kind_of o.reply;
  refused = refused_of o.reply;
  length = o.length;
  text = o.text;
}

abbrev pub reply_by : ℕ → ℕ → Reply
reply_by kind number =
    cond (eqb kind 0) (refused number) (cond (eqb kind 10) (apart First) (cond (eqb kind 11) (apart Second) same))

abbrev pub comparison_read_back : CompareNumbers → Outcome
comparison_read_back r = record { reply = reply_by r.kind r.refused; length = r.length; text = r.text }
