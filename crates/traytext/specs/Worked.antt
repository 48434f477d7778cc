-- Answers worked by hand: one list, and one claim over it. They are the bytes of the lines, not the
-- words of the definitions. proofs/Examples.antt proves the claim.
--
--   case s text       the answer s and its line
--   answers           the list: each kind of answer once
--   Written cases     each answer is written as the line beside it
use Rattle.std.specs.Prelude.{◌≡◌, List, [], ◌∷◌, ℕ}
use Rattle.trays.specs.Replies.{waiting, says_yes, says_no, refused_with, accepted, installed, judged, refused}
use Rattle.traytext.specs.Answers.{Response, began, replied, unread, response_text}

pub data Case : Type 0 where
  case : Response → List ℕ → Case

abbrev pub answers : List Case
answers =
    -- an empty line
    case began (10 ∷ []) ∷
    -- `accepted`
    case (replied accepted) (97 ∷ 99 ∷ 99 ∷ 101 ∷ 112 ∷ 116 ∷ 101 ∷ 100 ∷ 10 ∷ []) ∷
    -- `accepted 5 3`
    case (replied (installed 5 3)) (97 ∷ 99 ∷ 99 ∷ 101 ∷ 112 ∷ 116 ∷ 101 ∷ 100 ∷ 32 ∷ 53 ∷ 32 ∷ 51 ∷ 10 ∷ []) ∷
    -- `waiting 2`
    case (replied (judged (waiting 2))) (119 ∷ 97 ∷ 105 ∷ 116 ∷ 105 ∷ 110 ∷ 103 ∷ 32 ∷ 50 ∷ 10 ∷ []) ∷
    -- `yes`
    case (replied (judged says_yes)) (121 ∷ 101 ∷ 115 ∷ 10 ∷ []) ∷
    -- `no`
    case (replied (judged says_no)) (110 ∷ 111 ∷ 10 ∷ []) ∷
    -- `refused 21`
    case (replied (judged (refused_with 21))) (114 ∷ 101 ∷ 102 ∷ 117 ∷ 115 ∷ 101 ∷ 100 ∷ 32 ∷ 50 ∷ 49 ∷ 10 ∷ []) ∷
    -- `refused 39`
    case (replied (refused 39)) (114 ∷ 101 ∷ 102 ∷ 117 ∷ 115 ∷ 101 ∷ 100 ∷ 32 ∷ 51 ∷ 57 ∷ 10 ∷ []) ∷
    -- `malformed`
    case unread (109 ∷ 97 ∷ 108 ∷ 102 ∷ 111 ∷ 114 ∷ 109 ∷ 101 ∷ 100 ∷ 10 ∷ []) ∷ []

abbrev pub Written : List Case → Type 0
Written [] = Unit {0}
Written (case s text ∷ cases) = (response_text s ≡ text) × Written cases
