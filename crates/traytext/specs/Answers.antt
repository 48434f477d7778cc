-- How an answer of `trayjudge` is written, a line each, in ASCII: lists of byte values.
--
--   Response          what a line is answered: a fresh tray began, a call was replied to, or the line
--                     is malformed
--   is_malformed s    the line is malformed
--   judgement_text v  the line of a verdict: `waiting E`, `yes`, `no`, `refused N`
--   reply_text a      the line of a reply: `accepted`, `accepted SETS M`, a verdict, `refused N`
--   response_text s   the line of any answer: an empty one where a fresh tray began
--   most_answer       the most bytes of an answer: `accepted`, a number of 16 bits and one of 8
--   answer_means r    what each case of the code's answer says
use Rattle.std.specs.Prelude.{Bool, true, false, List, [], ◌∷◌, ℕ}
use Rattle.answers.specs.Answers.{line_of, accepted_word, waiting_word, refused_text, malformed_text}
use Rattle.trays.specs.Replies.{Judgement, waiting, says_yes, says_no, refused_with, Reply, accepted, installed, judged, refused, install_means, call_means, verdict_means}
use Rattle.traytext.specs.declared.LineAnswer.{LineAnswer}
use Rattle.traytext.specs.declared.LineAnswer.TheVariants as answer

pub data Response : Type 0 where
  began : Response
  replied : Reply → Response
  unread : Response

abbrev pub is_malformed : Response → Bool
is_malformed began = false
is_malformed (replied a) = false
is_malformed unread = true

-- with the line feed, as all below
abbrev pub judgement_text : Judgement → List ℕ
judgement_text (waiting empty) = line_of waiting_word (empty ∷ [])
judgement_text says_yes = 121 ∷ 101 ∷ 115 ∷ 10 ∷ []
judgement_text says_no = 110 ∷ 111 ∷ 10 ∷ []
judgement_text (refused_with number) = refused_text number

abbrev pub reply_text : Reply → List ℕ
reply_text accepted = line_of accepted_word []
reply_text (installed sets starts) = line_of accepted_word (sets ∷ starts ∷ [])
reply_text (judged v) = judgement_text v
reply_text (refused number) = refused_text number

abbrev pub response_text : Response → List ℕ
response_text began = 10 ∷ []
response_text (replied a) = reply_text a
response_text unread = malformed_text

abbrev pub most_answer : ℕ
most_answer = 19

abbrev pub answer_means : LineAnswer → Response
answer_means answer.Began = began
answer_means (answer.Install a) = replied (install_means a)
answer_means (answer.Call a) = replied (call_means a)
answer_means (answer.Verdict v) = replied (judged (verdict_means v))
answer_means answer.Malformed = unread
