-- How an answer is carried by value.
--
--   longest_sample       the most symbols of a sample
--   Reply                which of the three answers it is
--   Outcome              the answer, the length of the text and the text; and what each case of the
--   sample_outcome       code's result stands for
--   word_of a, reply_of a  the text of the answer a, empty where there is none; and which answer it is
--   Carries a o          the value o carries the answer a, in the words of the request: the text with
--                        its length and zeros after it; where there is none, the length 0 and zeros
--   outcome_of a         the value that does
--   sample_in o          the answer that a value tells
use Rattle.std.specs.Prelude as code
use Rattle.std.specs.Prelude.{Result, Ok, Err, Some, None, ◌≡◌, List, [], ℕ, ◌≤◌, ◌<◌, get_or, take, replicate}
use Rattle.std.proofs.Math.ListN as ListN
use Rattle.base.specs.declared.Refusal.{Refusal}
use Rattle.base.specs.Answers.{refusal_number}
use Rattle.searches.specs.declared.Spelled.{Spelled}
use Rattle.searches.specs.Texts.{longest_text, text_cells}
use Rattle.samples.specs.Samples as sample
use Rattle.samples.specs.Samples.{Sample}

abbrev pub longest_sample : ℕ
longest_sample = longest_text

pub data Reply : Type 0 where
  found : Reply
  none_there : Reply
  refused : ℕ → Reply

pub record Outcome : Type 0 where
  pub reply : Reply
  pub length : ℕ
  pub text : List ℕ

abbrev pub word_of : Sample → List ℕ
word_of (sample.text w) = w
word_of sample.nothing = []
word_of (sample.refused x) = []

abbrev pub reply_of : Sample → Reply
reply_of (sample.text w) = found
reply_of sample.nothing = none_there
reply_of (sample.refused x) = refused x

pub record Carries (a : Sample) (o : Outcome) : Type 0 where
  pub reply : o.reply ≡ reply_of a
  pub length : o.length ≡ ListN.length (word_of a)
  pub size : ListN.length o.text ≡ longest_sample
  pub front : (c : ℕ) → c < ListN.length (word_of a) → get_or o.text c 0 ≡ get_or (word_of a) c 0
  pub zeros : (c : ℕ) → ListN.length (word_of a) ≤ c → get_or o.text c 0 ≡ 0

abbrev pub no_text : Reply → Outcome
no_text reply = record { reply = reply; length = 0; text = replicate longest_sample 0 }

abbrev pub sample_outcome : Result (code.Option Spelled) Refusal → Outcome
sample_outcome (Ok (Some spelled)) = record { reply = found; length = spelled.length; text = spelled.text }
sample_outcome (Ok None) = no_text none_there
sample_outcome (Err refusal) = no_text (refused (refusal_number refusal))

abbrev pub outcome_of : Sample → Outcome
outcome_of (sample.text w) = record { reply = found; length = ListN.length w; text = text_cells w }
outcome_of sample.nothing = no_text none_there
outcome_of (sample.refused x) = no_text (refused x)

abbrev pub sample_by : Reply → List ℕ → Sample
sample_by found w = sample.text w
sample_by none_there w = sample.nothing
sample_by (refused x) w = sample.refused x

abbrev pub sample_in : Outcome → Sample
sample_in o = sample_by o.reply (take o.length o.text)
