-- Answers worked by hand: the bytes of the lines, not the words of the definitions. proofs/Exact.antt
-- proves them.
--
--   Written     each kind of answer once
use Rattle.std.specs.Prelude.{◌≡◌, true, false, [], ◌∷◌}
use Rattle.std.proofs.Math.Option.{none, some}
use Rattle.followcalls.specs.Calls.{forgotten, begun, going, lost_at, refused}
use Rattle.followlines.specs.Answers.{response_text}

pub record Written : Type 0 where
  -- an empty line, `accepted`
  pub no_rule_lem : response_text (some forgotten) ≡ 10 ∷ []
  pub taken : response_text (some begun) ≡ 97 ∷ 99 ∷ 99 ∷ 101 ∷ 112 ∷ 116 ∷ 101 ∷ 100 ∷ 10 ∷ []
  -- 65244 is FEDC, 32769 is 8001 and 4660 is 1234: `yes FEDC`, `no 8001`, `lost 65536 1234`
  pub accepts : response_text (some (going true 65244)) ≡ 121 ∷ 101 ∷ 115 ∷ 32 ∷ 70 ∷ 69 ∷ 68 ∷ 67 ∷ 10 ∷ []
  pub can_still : response_text (some (going false 32769)) ≡ 110 ∷ 111 ∷ 32 ∷ 56 ∷ 48 ∷ 48 ∷ 49 ∷ 10 ∷ []
  pub lost : response_text (some (lost_at 65536 4660)) ≡ 108 ∷ 111 ∷ 115 ∷ 116 ∷ 32 ∷ 54 ∷ 53 ∷ 53 ∷ 51 ∷ 54 ∷ 32 ∷ 49 ∷ 50 ∷ 51 ∷ 52 ∷ 10 ∷ []
  -- `refused 20`, `malformed`
  pub number : response_text (some (refused 20)) ≡ 114 ∷ 101 ∷ 102 ∷ 117 ∷ 115 ∷ 101 ∷ 100 ∷ 32 ∷ 50 ∷ 48 ∷ 10 ∷ []
  pub no_meaning : response_text none ≡ 109 ∷ 97 ∷ 108 ∷ 102 ∷ 111 ∷ 114 ∷ 109 ∷ 101 ∷ 100 ∷ 10 ∷ []
