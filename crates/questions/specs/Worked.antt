-- Questions and their answers worked by hand: the bytes of the lines, not the words of the
-- definitions. proofs/Exact.antt proves them.
--
--   Asked       `diagnose`, `locate 7 00ff` and `locate 7 -` ask; `diagnose ` and `locate 7` ask nothing
--   Written     each kind of answer once
use Rattle.std.specs.Prelude.{◌≡◌, [], ◌∷◌}
use Rattle.std.proofs.Math.Option.{none, some}
use Rattle.diagnoses.specs.Diagnosing.{refused_as, lost_at, open_with}
use Rattle.locating.specs.Locating.{refused_for, stuck_after, nowhere}
use Rattle.questions.specs.Meaning.{diagnoses, locates, question_in}
use Rattle.questions.specs.Answers.{finding_text, spot_text}

pub record Asked : Type 0 where
  pub bare : question_in (100 ∷ 105 ∷ 97 ∷ 103 ∷ 110 ∷ 111 ∷ 115 ∷ 101 ∷ []) ≡ some diagnoses
  pub bytes : question_in (108 ∷ 111 ∷ 99 ∷ 97 ∷ 116 ∷ 101 ∷ 32 ∷ 55 ∷ 32 ∷ 48 ∷ 48 ∷ 102 ∷ 102 ∷ []) ≡ some (locates 7 (0 ∷ 255 ∷ []))
  pub no_bytes : question_in (108 ∷ 111 ∷ 99 ∷ 97 ∷ 116 ∷ 101 ∷ 32 ∷ 55 ∷ 32 ∷ 45 ∷ []) ≡ some (locates 7 [])
  pub space_behind : question_in (100 ∷ 105 ∷ 97 ∷ 103 ∷ 110 ∷ 111 ∷ 115 ∷ 101 ∷ 32 ∷ []) ≡ none
  pub no_field : question_in (108 ∷ 111 ∷ 99 ∷ 97 ∷ 116 ∷ 101 ∷ 32 ∷ 55 ∷ []) ≡ none

pub record Written : Type 0 where
  -- `lost 3`, `open 12`, `refused 21`
  pub lost : finding_text (lost_at 3) ≡ 108 ∷ 111 ∷ 115 ∷ 116 ∷ 32 ∷ 51 ∷ 10 ∷ []
  pub not_lost : finding_text (open_with 12) ≡ 111 ∷ 112 ∷ 101 ∷ 110 ∷ 32 ∷ 49 ∷ 50 ∷ 10 ∷ []
  pub no_board : finding_text (refused_as 21) ≡ 114 ∷ 101 ∷ 102 ∷ 117 ∷ 115 ∷ 101 ∷ 100 ∷ 32 ∷ 50 ∷ 49 ∷ 10 ∷ []
  -- `after 305`, `nowhere`, `refused 23`
  pub after : spot_text (stuck_after 305) ≡ 97 ∷ 102 ∷ 116 ∷ 101 ∷ 114 ∷ 32 ∷ 51 ∷ 48 ∷ 53 ∷ 10 ∷ []
  pub none_lost : spot_text nowhere ≡ 110 ∷ 111 ∷ 119 ∷ 104 ∷ 101 ∷ 114 ∷ 101 ∷ 10 ∷ []
  pub empty_before : spot_text (refused_for 23) ≡ 114 ∷ 101 ∷ 102 ∷ 117 ∷ 115 ∷ 101 ∷ 100 ∷ 32 ∷ 50 ∷ 51 ∷ 10 ∷ []
