-- How a line of `tracefollow` is answered, in ASCII: lists of byte values.
--
--   mask_text m      a space, a mask as four upper-case hex digits, the highest bit first, a line feed
--   reply_text a     the line of a reply: `accepted`, `yes MASK`, `no MASK`, `lost B MASK`, `refused N`;
--                    an empty line where the rule was forgotten
--   response_text o  the same of a line, which may be malformed
--   most_answer      the most bytes of an answer: `lost `, ten digits, a space, four digits, a line feed
--   line_step s o    what a line of the meaning o comes to on the state s; a malformed one changes nothing
use Rattle.std.specs.Prelude.{true, false, List, [], ◌∷◌, ◌++◌, ℕ}
use Rattle.std.proofs.Math.Option.{Option, none, some}
use Rattle.text.specs.Numerals.{decimal, hex}
use Rattle.answers.specs.Answers.{line_of, accepted_word, refused_text, malformed_text}
use Rattle.followcalls.specs.declared.FollowState.{FollowState}
use Rattle.followcalls.specs.Calls.{Call, Reply, forgotten, begun, going, lost_at, refused, Outcome, call_step}

abbrev pub mask_text : ℕ → List ℕ
mask_text m = (32 ∷ []) ++ (hex 4 m ++ (10 ∷ []))

abbrev pub reply_text : Reply → List ℕ
reply_text forgotten = 10 ∷ []
reply_text begun = line_of accepted_word []
reply_text (going true m) = (121 ∷ 101 ∷ 115 ∷ []) ++ mask_text m
reply_text (going false m) = (110 ∷ 111 ∷ []) ++ mask_text m
reply_text (lost_at b m) = (108 ∷ 111 ∷ 115 ∷ 116 ∷ 32 ∷ []) ++ (decimal b ++ mask_text m)
reply_text (refused x) = refused_text x

abbrev pub response_text : Option Reply → List ℕ
response_text none = malformed_text
response_text (some a) = reply_text a

abbrev pub most_answer : ℕ
most_answer = 21

abbrev pub line_step : FollowState → Option Call → Outcome
line_step s none = record { reply = none; state = s }
line_step s (some c) = call_step s c
