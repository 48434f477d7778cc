-- The one proof of all that specs/Filled.antt claims. The route: the mapping of the chunks' texts,
-- joined, says yes exactly where the rule accepts that text (profile), and so does the verdict of a
-- filled board (histories). Assumes nothing.
use mathlib.Core.Path.{◌≡◌, sym, ◌∙◌}
use mathlib.Core.Logic.{◌↔◌}
use mathlib.Core.Bool.{true, false}
use mathlib.Core.List.{List}
use Prim.Native.Nat.{ℕ}
use Rattle.base.proofs.Tests.{by_test, not_both}
use Rattle.automaton.specs.declared.Rule.{Rule}
use Rattle.automaton.specs.Automaton.{Accepts}
use Rattle.automaton.specs.Rules.{automaton_of}
use Rattle.compositions.specs.Bracketing.{Bracketed, leaves, value_of}
use Rattle.mappings.specs.Mappings.{compose}
use Rattle.profile.specs.Profiles.{profile_of}
use Rattle.profile.specs.Runs.{verdict_of}
use Rattle.profile.specs.Claims.{Takes}
use Rattle.profile.proofs.Answers as answers
use Rattle.profile.proofs.Claims as profile
use Rattle.calls.specs.Replies.{yes_with, no_with}
use Rattle.calls.specs.Calls.{Call}
use Rattle.histories.specs.History.{rule_in, summed_in, text_in, verdict_in}
use Rattle.histories.proofs.EveryList.{every_list}
use Rattle.fillings.specs.Filled.{Filled}
use Rattle.fillings.proofs.Boards as boards
use Rattle.mapverdict.specs.Filled.{RunsAll, mappings_of, Claims}
use Rattle.mapverdict.proofs.FewSets as sets
use Rattle.mapverdict.proofs.Refusals as refusals

runs : (h : List Call) (r : Rule) (ws : List (List ℕ)) → Takes r → Filled h r ws → RunsAll r ws
runs h r ws takes is i b = answers.refusal_is (profile_of r) _ ∙ boards.taken h r ws is i b

module _ (h : List Call) (r : Rule) (ws : List (List ℕ)) (takes : Takes r) (is : Filled h r ws) (t : Bracketed (List ℕ)) (are : leaves t ≡ mappings_of r ws) where
  by_text : (verdict_of (profile_of r) (value_of compose t) ≡ true) ↔ Accepts (automaton_of (rule_in h)) (text_in h)
  by_text = rw (boards.rule_is h r ws is, boards.text_is h r ws is) ((profile.claims).says r takes ws (runs h r ws takes is) t are)

  yes_same : (verdict_of (profile_of r) (value_of compose t) ≡ true) ↔ (verdict_in h ≡ yes_with (summed_in h))
  yes_same =
      let board = (every_list h).verdict.accepts is.board (boards.none_missing h r ws is) in
      ((λ e. board.1 (by_text.0 e)), λ e. by_text.1 (board.0 e))

  no_same : (verdict_of (profile_of r) (value_of compose t) ≡ false) ↔ (verdict_in h ≡ no_with (summed_in h))
  no_same =
      let board = (every_list h).verdict.rejects is.board (boards.none_missing h r ws is) in (
        (λ e. board.1 (λ a. not_both (by_text.1 a) e)),
        λ e. by_test (verdict_of (profile_of r) (value_of compose t)) (λ y. absurd (board.0 e (by_text.0 y))) (λ n. n),
      )

pub claims : Claims
claims = record {
  yes_same = yes_same;
  no_same = no_same;
  runs = runs;
  filled = boards.filled;
  installs = sets.installs;
  fillings = λ r takes ws one most ok.
      boards.fillings r (sets.installs r takes) ws one most (λ i b. sym (answers.refusal_is (profile_of r) _) ∙ ok i b);
  as_installed = refusals.as_installed;
  as_delivered = refusals.as_delivered;
}
