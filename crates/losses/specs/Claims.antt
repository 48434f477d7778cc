-- What is claimed of the diagnosis after a list of calls, for every list; proofs/Claims.antt proves
-- it.
use Rattle.std.specs.Prelude.{◌≡◌, ◌↔◌, ◌⊎◌, true, List, ◌++◌, ℕ, ◌≤◌}
use Rattle.std.proofs.Math.Option.{none, some}
use Rattle.calls.specs.Replies.{Reported, judged, yes_with, no_with}
use Rattle.calls.specs.Calls.{Call, asks_verdict}
use Rattle.calls.specs.mirror.Steps.{step_of}
use Rattle.histories.specs.History.{rule_in, board_in, places_in, standing, verdict_in}
use Rattle.histories.specs.Claims.{judge_after}
use Rattle.diagnoses.specs.Diagnosing.{Finding, diagnosis_of}
use Rattle.losses.specs.Losses.{Lost, Open, Diagnosed, AcceptsNothing, AllElsewhere}

pub record Claims : Type 0 where
  -- after every list of calls the diagnosis is the one that the list says, and there is only one
  pub diagnosis : (h : List Call) (f : Finding) → (diagnosis_of (judge_after h) ≡ f) ↔ Diagnosed h f
  -- a lost trace stays lost, at the same place, after any list of calls by which the same rule is
  -- there and the same chunks stand at the places 0 .. p, whatever else was called
  pub stays : (h g : List Call) (p : ℕ) → Lost h p → rule_in g ≡ rule_in h → ((i : ℕ) → i ≤ p → standing g i ≡ standing h i) → Lost g p
  -- so it does after calls that leave rule, board and these places alone
  pub stays_on : (h cs : List Call) (p : ℕ) → Lost h p → AllElsewhere p cs → Lost (cs ++ h) p
  -- and no verdict on a lost trace is yes
  pub no_yes : (g : List Call) (p c : ℕ) → Lost g p → verdict_in g ≡ yes_with c → ⊥
  pub no_yes_reply : (g : List Call) (p c : ℕ) (r : Reported) → Lost g p → (step_of (judge_after g) asks_verdict).reply ≡ judged r → r.verdict ≡ yes_with c → ⊥
  -- a no is explained: the trace is lost at a place, or it is open with all places and so stopped
  -- too early; a yes is open with all places
  pub explained : (h : List Call) (c : ℕ) → verdict_in h ≡ no_with c → ((p : ℕ) × Lost h p) ⊎ Open h (places_in h)
  pub yes_open : (h : List Call) (c : ℕ) → verdict_in h ≡ yes_with c → Open h (places_in h)
  -- of a rule that accepts nothing the trace is lost at place 0, once a chunk stands there; before, it
  -- is open with 0 places
  pub nothing_open : (h : List Call) → AcceptsNothing h → board_in h ≡ true → standing h 0 ≡ none → Open h 0
  pub nothing_lost : (h : List Call) (w : List ℕ) → AcceptsNothing h → standing h 0 ≡ some w → Lost h 0
