-- EVERY LIST OF CALLS, over the definitions alone: of the replies to the calls h and of the judge
-- that they leave, all that demand 3 says holds. Assumes nothing.
use mathlib.Core.Path.{◌≡◌, refl, ap, ap₂}
use mathlib.Core.List.{List, [], ◌∷◌}
use Rattle.executions.specs.Executions.{state_after, replies_to as machine_replies}
use Rattle.ruleformat.proofs.Claims as rulefile
use Rattle.calls.specs.declared.Judge.{Judge}
use Rattle.calls.specs.Replies.{judged}
use Rattle.calls.specs.Calls.{Call, installs, loads, opens, delivers, withdraws, asks_verdict}
use Rattle.calls.specs.mirror.Steps.{report_of, step_of}
use Rattle.calls.proofs.Conditions.{load_accepted}
use Rattle.histories.specs.History.{rule_there, places_in, last_revision, standing, report_in, answer_of, answers_to}
use Rattle.histories.specs.Claims.{judge_after, replies_to, EveryList}
use Rattle.histories.proofs.Method.{method, method_bytes}
use Rattle.histories.proofs.Conditions.{accepted_exactly, refused_exactly}
use Rattle.histories.proofs.Numbers.{summed_same, bytes_same}
use Rattle.histories.proofs.Steps.{AgreesWith, good_fresh, install_good, install_says, load_good, load_says, open_good, open_says, withdraw_good, withdraw_says, ask_good, deliver_good, deliver_says}
use Rattle.histories.proofs.VerdictAgrees.{by_rule, verdict_says, report_says}
use Rattle.histories.proofs.VerdictClauses.{there, words}
use Rattle.histories.proofs.ReportClauses.{report_words}

-- ---- one call
module _ (h : List Call) (j : Judge) (g : AgreesWith h j) where
  step_good : (c : Call) → AgreesWith (c ∷ h) (step_of j c).state
  step_good (installs r) = install_good h j g r
  step_good (loads f) = load_good h j g f
  step_good (opens n) = open_good h j g n
  step_good (delivers p v w) = deliver_good h j g p v w
  step_good (withdraws p) = withdraw_good h j g p
  step_good asks_verdict = ask_good h j g

  step_right : (c : Call) → (step_of j c).reply ≡ answer_of h c
  step_right (installs r) = install_says h j g r
  step_right (loads f) = load_says h j g f
  step_right (opens n) = open_says h j g n
  step_right (delivers p v w) = deliver_says h j g p v w
  step_right (withdraws p) = withdraw_says h j g p
  step_right asks_verdict = ap judged (report_says h j g)

-- ---- every list
pub good : (h : List Call) → AgreesWith h (judge_after h)
unfolding state_after
good [] = good_fresh
good (c ∷ h) = step_good h (judge_after h) (good h) c

correct : (h : List Call) → replies_to h ≡ answers_to h
unfolding machine_replies answers_to
correct [] = refl
correct (c ∷ h) = ap₂ ◌∷◌ (step_right h (judge_after h) (good h) c) (correct h)

pub every_list : (h : List Call) → EveryList h
every_list h =
    let g = good h in
    record {
      correct = correct h;
      method = method;
      method_of_bytes = method_bytes;
      language_of_bytes = λ f e. (rulefile.claims).language f (load_accepted f e).0;
      accepted_exactly = accepted_exactly h;
      refused_exactly = refused_exactly h;
      after = record {
        rule = g.rule;
        places = g.places_are;
        empty = g.empty;
        ends = g.ends;
        counts = g.counts;
        lengths = g.lengths;
        revisions = g.revisions;
        asked = verdict_says h (judge_after h) g;
        joined = λ b. by_rule (rule_there h) (places_in h) (standing h) (last_revision h) (judge_after h) g (there h b);
        summed = summed_same (rule_there h) (places_in h) (standing h) (last_revision h) (judge_after h) g;
        reported = report_says h (judge_after h) g;
        summed_bytes_lem = bytes_same (rule_there h) (places_in h) (standing h) (last_revision h) (judge_after h) g;
      };
      verdict = words h (judge_after h) g;
      report = report_words h;
    }

-- a call made then is answered as the list says
pub answer_after : (h : List Call) (c : Call) → (step_of (judge_after h) c).reply ≡ answer_of h c
answer_after h = step_right h (judge_after h) (good h)

-- what is reported then is what the list says
pub report_after : (h : List Call) → report_of (judge_after h) ≡ report_in h
report_after h = report_says h (judge_after h) (good h)
