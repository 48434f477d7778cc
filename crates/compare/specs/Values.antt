-- How an answer is carried by value.
--
--   Reply                which of the answers it is
--   Outcome              the answer, the length of the text and the text; and what each case of the
--   compare_outcome      code's result stands for
--   word_of a, reply_of a  the text of the answer a, empty where there is none; and which answer it is
--   Carries a o          the value o carries the answer a, in the words of the request: the text with
--                        its length and zeros after it; where there is none, the length 0 and zeros
--   outcome_of a         the value that does
--   comparison_in o      the answer that a value tells
use Rattle.std.specs.Prelude as code
use Rattle.std.specs.Prelude.{Result, Ok, Err, Some, None, ◌≡◌, List, [], ℕ, ◌≤◌, ◌<◌, get_or, take, replicate}
use Rattle.std.proofs.Math.ListN as ListN
use Rattle.base.specs.declared.Refusal.{Refusal}
use Rattle.base.specs.Answers.{refusal_number}
use Rattle.searches.specs.Texts.{longest_text, text_cells}
use Rattle.compare.specs.declared.Which.{Which}
use Rattle.compare.specs.declared.Apart.{Apart}
use Rattle.compare.specs.Compared as compared
use Rattle.compare.specs.Compared.{Comparison}

pub data Reply : Type 0 where
  apart : Which → Reply
  same : Reply
  refused : ℕ → Reply

pub record Outcome : Type 0 where
  pub reply : Reply
  pub length : ℕ
  pub text : List ℕ

abbrev pub word_of : Comparison → List ℕ
word_of (compared.apart which w) = w
word_of compared.same = []
word_of (compared.refused x) = []

abbrev pub reply_of : Comparison → Reply
reply_of (compared.apart which w) = apart which
reply_of compared.same = same
reply_of (compared.refused x) = refused x

pub record Carries (a : Comparison) (o : Outcome) : Type 0 where
  pub reply : o.reply ≡ reply_of a
  pub length : o.length ≡ ListN.length (word_of a)
  pub size : ListN.length o.text ≡ longest_text
  pub front : (c : ℕ) → c < ListN.length (word_of a) → get_or o.text c 0 ≡ get_or (word_of a) c 0
  pub zeros : (c : ℕ) → ListN.length (word_of a) ≤ c → get_or o.text c 0 ≡ 0

abbrev pub no_text : Reply → Outcome
no_text reply = record { reply = reply; length = 0; text = replicate longest_text 0 }

abbrev pub compare_outcome : Result (code.Option Apart) Refusal → Outcome
compare_outcome (Ok (Some a)) = record { reply = apart a.which; length = a.text.length; text = a.text.text }
compare_outcome (Ok None) = no_text same
compare_outcome (Err refusal) = no_text (refused (refusal_number refusal))

abbrev pub outcome_of : Comparison → Outcome
outcome_of (compared.apart which w) = record { reply = apart which; length = ListN.length w; text = text_cells w }
outcome_of compared.same = no_text same
outcome_of (compared.refused x) = no_text (refused x)

abbrev pub comparison_by : Reply → List ℕ → Comparison
comparison_by (apart which) w = compared.apart which w
comparison_by same w = compared.same
comparison_by (refused x) w = compared.refused x

abbrev pub comparison_in : Outcome → Comparison
comparison_in o = comparison_by o.reply (take o.length o.text)
