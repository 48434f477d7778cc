-- Summarizing and concluding after a list of calls, by the list alone: they go by the rule that is
-- there, of which specs/Traces.antt says what they come to. proofs/Lists.antt proves it.
--
--   summary_there o number w  what is answered to the chunk w of that number, where o is the rule
--                             that is there: refused with 20 where none is
--   conclude_there o a chunks  what is concluded there of the summary a
use Rattle.std.specs.Prelude.{◌≡◌, List, ℕ}
use Rattle.std.proofs.Math.Option.{Option, none, some}
use Rattle.automaton.specs.declared.Rule.{Rule}
use Rattle.calls.specs.Replies.{Reported, refused_with}
use Rattle.calls.specs.Calls.{Call, install_number, alone}
use Rattle.histories.specs.History.{rule_there}
use Rattle.histories.specs.Claims.{judge_after}
use Rattle.summaries.specs.declared.Summary.{Summary}
use Rattle.summaries.specs.Summaries.{Summarized, summary_refused, summarize_of, conclude_of}
use Rattle.summaryverdict.specs.Traces.{judge_of}

abbrev pub summary_there : Option Rule → ℕ → List ℕ → Summarized
summary_there none number w = summary_refused 20
summary_there (some r) number w = summarize_of (judge_of r) number w

abbrev pub conclude_there : Option Rule → Summary → ℕ → Reported
conclude_there none a chunks = alone (refused_with 20)
conclude_there (some r) a chunks = conclude_of (judge_of r) a chunks

pub record ListClaims : Type 0 where
  pub summarize : (h : List Call) (number : ℕ) (w : List ℕ) → summarize_of (judge_after h) number w ≡ summary_there (rule_there h) number w
  pub conclude : (h : List Call) (a : Summary) (chunks : ℕ) → conclude_of (judge_after h) a chunks ≡ conclude_there (rule_there h) a chunks
  -- a rule that is there is one that installing accepts
  pub installs : (h : List Call) (r : Rule) → rule_there h ≡ some r → install_number r ≡ none
