-- What running a chunk comes to, once its place and its length are known (document 01, "Numbers
-- caused by the input" and "by the state"): 13, then 22, else the runs; zeros stand beside a refusal.
--
--   Attempted          the reply to a delivery, and the runs
--   no_runs            zeros
--   refused_with x     refused with the number x
--   ran_to runs        accepted, with the runs, and for how many bytes a successor was looked up
--   attempt_means r    what each case of the code's answer says
--   attempt_of sets next singles mask k late t  of the text t, from the states of the mask, where
--                      the rule has k symbols; late says whether the revision comes late
use Rattle.std.specs.Prelude.{Result, Ok, Err, Bool, cond, List, ℕ, replicate}
use Rattle.base.specs.declared.Refusal.{Refusal}
use Rattle.base.specs.Answers.{refusal_number}
use Rattle.limits.specs.Limits.{most_states}
use Rattle.chunks.specs.declared.Runs.{Runs}
use Rattle.chunks.specs.Chunks.{foreign}
use Rattle.chunks.specs.mirror.Walks.{runs_of}
use Rattle.calls.specs.Replies.{Reply, refused, delivered}

pub record Attempted : Type 0 where
  pub reply : Reply
  pub runs : Runs

abbrev pub no_runs : Runs
no_runs = record { ends = replicate most_states 0; count = 0; bytes = 0; looked = 0 }

abbrev pub refused_with : ℕ → Attempted
refused_with number = record { reply = refused number; runs = no_runs }

abbrev pub ran_to : Runs → Attempted
ran_to runs = record { reply = delivered runs.looked; runs = runs }

abbrev pub attempt_means : Result Runs Refusal → Attempted
attempt_means (Ok runs) = ran_to runs
attempt_means (Err refusal) = refused_with (refusal_number refusal)

unfoldable pub attempt_of : List ℕ → List ℕ → List ℕ → ℕ → ℕ → Bool → List ℕ → Attempted
attempt_of sets next singles mask k late t =
    cond (foreign t k) (refused_with 13) (cond late (refused_with 22) (ran_to (runs_of sets next singles mask t)))
