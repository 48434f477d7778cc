-- Answers worked by hand: one list, and one claim over it. They are the bytes of the lines, not the
-- words of the definitions. proofs/Examples.antt proves the claim.
--
--   case s text       the answer s and its line
--   verdict_of v      the answer where the verdict is v: 3 text bytes, quotient 2, remainder 1
--   answers           the list: each kind of answer once
--   Written cases     each answer is written as the line beside it
use Rattle.std.specs.Prelude.{◌≡◌, List, [], ◌∷◌, ℕ}
use Rattle.calls.specs.Replies.{Judgement, waiting, yes_with, no_with, refused_with, accepted, installed, delivered, judged, refused}
use Rattle.calltext.specs.Answers.{Response, began, replied, unread, response_text}

pub data Case : Type 0 where
  case : Response → List ℕ → Case

abbrev pub verdict_of : Judgement → Response
verdict_of v = replied (judged (record { verdict = v; bytes = 3; quotient = 2; remainder = 1 }))

abbrev pub answers : List Case
answers =
    -- an empty line
    case began (10 ∷ []) ∷
    -- `accepted`
    case (replied accepted) (97 ∷ 99 ∷ 99 ∷ 101 ∷ 112 ∷ 116 ∷ 101 ∷ 100 ∷ 10 ∷ []) ∷
    -- `accepted 5 3`
    case (replied (installed 5 3)) (97 ∷ 99 ∷ 99 ∷ 101 ∷ 112 ∷ 116 ∷ 101 ∷ 100 ∷ 32 ∷ 53 ∷ 32 ∷ 51 ∷ 10 ∷ []) ∷
    -- `accepted 12`
    case (replied (delivered 12)) (97 ∷ 99 ∷ 99 ∷ 101 ∷ 112 ∷ 116 ∷ 101 ∷ 100 ∷ 32 ∷ 49 ∷ 50 ∷ 10 ∷ []) ∷
    -- `waiting 2`
    case (verdict_of (waiting 2)) (119 ∷ 97 ∷ 105 ∷ 116 ∷ 105 ∷ 110 ∷ 103 ∷ 32 ∷ 50 ∷ 10 ∷ []) ∷
    -- `yes 7 3 2 1`
    case (verdict_of (yes_with 7)) (121 ∷ 101 ∷ 115 ∷ 32 ∷ 55 ∷ 32 ∷ 51 ∷ 32 ∷ 50 ∷ 32 ∷ 49 ∷ 10 ∷ []) ∷
    -- `no 7 3 2 1`
    case (verdict_of (no_with 7)) (110 ∷ 111 ∷ 32 ∷ 55 ∷ 32 ∷ 51 ∷ 32 ∷ 50 ∷ 32 ∷ 49 ∷ 10 ∷ []) ∷
    -- `refused 21`
    case (verdict_of (refused_with 21)) (114 ∷ 101 ∷ 102 ∷ 117 ∷ 115 ∷ 101 ∷ 100 ∷ 32 ∷ 50 ∷ 49 ∷ 10 ∷ []) ∷
    -- `refused 13`
    case (replied (refused 13)) (114 ∷ 101 ∷ 102 ∷ 117 ∷ 115 ∷ 101 ∷ 100 ∷ 32 ∷ 49 ∷ 51 ∷ 10 ∷ []) ∷
    -- `malformed`
    case unread (109 ∷ 97 ∷ 108 ∷ 102 ∷ 111 ∷ 114 ∷ 109 ∷ 101 ∷ 100 ∷ 10 ∷ []) ∷ []

abbrev pub Written : List Case → Type 0
Written [] = Unit {0}
Written (case s text ∷ cases) = (response_text s ≡ text) × Written cases
