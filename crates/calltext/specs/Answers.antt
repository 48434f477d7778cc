-- How an answer is written, a line each.
--
--   Response          what a line is answered: a fresh judge began, a call was replied to, or the
--                     line is malformed
--   judgement_text v beside  the line of a verdict; `beside` follows the count of a yes or no
--   reply_text a      the line of a reply: beside a verdict's yes or no the bytes, the quotient and
--                     the remainder
--   response_text s   the line of any answer
--   is_malformed s       the line is malformed
--   answer_means r     what each case of the code's answer says
use Rattle.std.specs.Prelude.{Bool, true, false, List, [], ◌∷◌, ℕ}
use Rattle.answers.specs.Answers.{line_of, accepted_word, waiting_word, refused_text, malformed_text}
use Rattle.calls.specs.Replies.{Judgement, waiting, yes_with, no_with, refused_with, Reply, accepted, installed, judged, refused, install_means, call_means, deliver_means, report_means, delivered}
use Rattle.calltext.specs.declared.LineAnswer.{LineAnswer}
use Rattle.calltext.specs.declared.LineAnswer.TheVariants.{Began, Install, Open, Deliver, Withdraw, Verdict, Malformed}

pub data Response : Type 0 where
  began : Response
  replied : Reply → Response
  unread : Response

abbrev pub is_malformed : Response → Bool
is_malformed began = false
is_malformed (replied a) = false
is_malformed unread = true

abbrev pub yes_word : List ℕ
yes_word = 121 ∷ 101 ∷ 115 ∷ []

abbrev pub no_word : List ℕ
no_word = 110 ∷ 111 ∷ []

abbrev pub judgement_text : Judgement → List ℕ → List ℕ
judgement_text (waiting empty) beside = line_of waiting_word (empty ∷ [])
judgement_text (yes_with count) beside = line_of yes_word (count ∷ beside)
judgement_text (no_with count) beside = line_of no_word (count ∷ beside)
judgement_text (refused_with number) beside = refused_text number

abbrev pub reply_text : Reply → List ℕ
reply_text accepted = line_of accepted_word []
reply_text (installed sets starts) = line_of accepted_word (sets ∷ starts ∷ [])
reply_text (delivered looked) = line_of accepted_word (looked ∷ [])
reply_text (judged r) = judgement_text r.verdict (r.bytes ∷ r.quotient ∷ r.remainder ∷ [])
reply_text (refused number) = refused_text number

abbrev pub response_text : Response → List ℕ
response_text began = 10 ∷ []
response_text (replied a) = reply_text a
response_text unread = malformed_text

abbrev pub answer_means : LineAnswer → Response
answer_means Began = began
answer_means (Install a) = replied (install_means a)
answer_means (Open a) = replied (call_means a)
answer_means (Deliver a) = replied (deliver_means a)
answer_means (Withdraw a) = replied (call_means a)
answer_means (Verdict r) = replied (judged (report_means r))
answer_means Malformed = unread
