-- What a diagnosis says, and which it is on any state whatever. On a state that no list of calls
-- leaves, nobody says what it should be; what stands here is what the code does. crates/losses says
-- what it is after a list of calls.
--
--   Finding                what a diagnosis says
--     refused_as x         refused with the number x
--     lost_at p            the trace is lost at place p
--     open_with m          it is not lost, and the first m places are filled
--   finding_means          what each case of the code's diagnosis says
--   diagnosis_means        what the code's answer says
--   find_from empty lost p f  from place p on, where f places are left: the first that is empty, or
--                          past whose chunk the trace is lost
--   lost_after ends d n m p   C after the first p places has no member that has a delegate
--   diagnosis_of j         the diagnosis of the state j: 21 where no board is there
use Rattle.std.specs.Prelude.{Result, Ok, Err, Bool, cond, List, ℕ, zero, suc, eqb}
use Rattle.base.specs.declared.Refusal.{Refusal}
use Rattle.base.specs.Answers.{refusal_number}
use Rattle.chunks.specs.mirror.Walks.{delegate_mask}
use Rattle.board.specs.Boards.{places_of, is_empty}
use Rattle.joins.specs.Joining.{join_up_to}
use Rattle.calls.specs.declared.Judge.{Judge}
use Rattle.calls.specs.mirror.Steps.{lacks_board}
use Rattle.diagnoses.specs.declared.Diagnosis.{Diagnosis}
use Rattle.diagnoses.specs.declared.Diagnosis.TheVariants.{Lost, Open}

pub data Finding : Type 0 where
  refused_as : ℕ → Finding
  lost_at : ℕ → Finding
  open_with : ℕ → Finding

abbrev pub finding_means : Diagnosis → Finding
finding_means (Lost place) = lost_at place
finding_means (Open places) = open_with places

abbrev pub diagnosis_means : Result Diagnosis Refusal → Finding
diagnosis_means (Ok found) = finding_means found
diagnosis_means (Err refusal) = refused_as (refusal_number refusal)

unfoldable pub find_from : (ℕ → Bool) → (ℕ → Bool) → ℕ → ℕ → Finding
find_from empty lost p zero = open_with p
find_from empty lost p (suc f) = cond (empty p) (open_with p) (cond (lost p) (lost_at p) (find_from empty lost (suc p) f))

abbrev pub lost_after : List ℕ → List ℕ → ℕ → ℕ → ℕ → Bool
lost_after ends d n m p = eqb (delegate_mask d n (join_up_to ends d n m p)) 0

unfoldable pub diagnosis_of : Judge → Finding
diagnosis_of j =
    cond (lacks_board j) (refused_as 21)
    (find_from (is_empty j.board)
    (λ p. lost_after j.board.ends j.built.delegates j.built.n j.built.initials (suc p))
    0
    (places_of j.board))
