-- What is concluded of a trace, and of a trace by another rule. Assumes what `Trace` says.
use mathlib.Core.Path.{◌≡◌, sym, ap, ◌∙◌}
use mathlib.Core.Logic.{◌↔◌, ◌⊎◌, inl, inr}
use mathlib.Core.Bool.{Bool, true, false}
use mathlib.Core.List.{List, flatten}
use mathlib.Core.Option.{none}
use Prim.Native.Nat.{ℕ, ◌<◌}
use native.Mathlib.Omega.{arith}
use lib.ListN.{length}
use Rattle.base.proofs.Tests.{by_test, not_both, zero_one}
use Rattle.masks.specs.Masks.{shares}
use Rattle.compositions.specs.Bracketing.{Bracketed, value_of}
use Rattle.automaton.specs.declared.Rule.{Rule}
use Rattle.automaton.specs.Automaton.{Accepts}
use Rattle.automaton.specs.Rules.{automaton_of, WellFormed}
use Rattle.subsets.specs.Claims.{fits}
use Rattle.build.specs.mirror.Building.{built_of}
use Rattle.digests.specs.Digests.{digest_of}
use Rattle.calls.specs.Replies.{Reported, yes_with, no_with, refused_with, refusal_in}
use Rattle.calls.specs.Calls.{install_number, report_by}
use Rattle.calls.specs.Claims.{Divided}
use Rattle.calls.proofs.Reporting.{report_law}
use Rattle.histories.proofs.Running.{n_same}
use Rattle.histories.proofs.Steps.{accepted_rule}
use Rattle.summaries.specs.declared.Summary.{Summary}
use Rattle.summaries.specs.Summaries.{capped, combine, said_by, reached_by}
use Rattle.summaries.proofs.Answers.{reported}
use Rattle.summaries.proofs.Claims as summaries
use Rattle.summaryverdict.specs.Traces.{judge_of, texts_of, count_of, Trace, Reports, concluded_by}
use Rattle.summaryverdict.proofs.Traces as traces

-- ---- yes or no with a count
module _ (t : Bool) (c : ℕ) where
  said_yes : (said_by t c ≡ yes_with c) ↔ (t ≡ true)
  said_yes = ((λ e. by_test t (λ y. y) (λ n. let z : no_with c ≡ yes_with c = rw n at e in zero_one cc)), λ e. rw e)

  said_no : (said_by t c ≡ no_with c) ↔ (t ≡ false)
  said_no = ((λ e. by_test t (λ y. let z : yes_with c ≡ no_with c = rw y at e in zero_one cc) (λ n. n)), λ e. rw e)

  said_either : (said_by t c ≡ yes_with c) ⊎ (said_by t c ≡ no_with c)
  said_either = by_test t (λ e. inl (rw e)) (λ e. inr (rw e))

-- a rule that installs has a state
has_state : (r : Rule) → WellFormed r → fits r → 0 < (built_of r).n
has_state r good fit = omega (arith, n_same r good fit, good.states)

module _ (r : Rule) (ws : List (List ℕ)) (t : Bracketed Summary) (is : Trace r ws t) where
  abbrev good : WellFormed r
  good = (accepted_rule r is.takes).0

  abbrev fit : fits r
  fit = (accepted_rule r is.takes).1

  abbrev value : Summary
  value = value_of combine t

  pub not_refused : refusal_in (concluded_by r t (length ws)).verdict ≡ none
  not_refused =
      ((summaries.claims).concluded (judge_of r) value (length ws)).taken.1 (
        has_state r good fit,
        traces.whole r good fit ws is.runs t is.are is.within,
        traces.first-is r good fit ws is.runs t is.are is.within,
        traces.rule_is r good fit ws is.runs t is.are,
        traces.some_chunk r good fit ws is.runs t is.are,
        traces.end_is r good fit ws is.runs t is.are is.within,
      )

  abbrev says : Bool
  says = shares (reached_by (built_of r) value) r.finals

  yes_law : (says ≡ true) ↔ Accepts (automaton_of r) (flatten (texts_of ws))
  yes_law = traces.yes_law r good fit ws is.runs t is.are

  count-is : value.count ≡ capped (count_of r ws)
  count-is = traces.count-is r good fit ws is.runs t is.are

  bytes-is : value.bytes ≡ capped (length (flatten (texts_of ws)))
  bytes-is = traces.bytes-is r good fit ws is.runs t is.are

  pub report_is : concluded_by r t (length ws) ≡ report_by (said_by says value.count) value.bytes
  report_is = reported (judge_of r) value (length ws) not_refused

  verdict_is : (concluded_by r t (length ws)).verdict ≡ said_by says (capped (count_of r ws))
  verdict_is =
      ap (λ (x : Reported). x.verdict) report_is
      ∙ (report_law (said_by says value.count) value.bytes).verdict
      ∙ ap (said_by says) count-is

  divided : Divided (capped (count_of r ws)) (capped (length (flatten (texts_of ws)))) (concluded_by r t (length ws))
  divided =
      rw (report_is, ← count-is, ← bytes-is)
      ((report_law (said_by says value.count) value.bytes).divided value.count (said_either says value.count))

  pub concludes : Reports r ws (concluded_by r t (length ws))
  concludes =
      let yes-there = said_yes says (capped (count_of r ws)) in
      let no-there = said_no says (capped (count_of r ws)) in
      record {
        either = rw verdict_is (said_either says (capped (count_of r ws)));
        yes_exactly = ((λ e. yes_law.0 (yes-there.0 (sym verdict_is ∙ e))), λ a. verdict_is ∙ yes-there.1 (yes_law.1 a));
        no_exactly = (
          (λ e a. not_both (yes_law.1 a) (no-there.0 (sym verdict_is ∙ e))),
          λ n. verdict_is ∙ no-there.1 (by_test says (λ y. absurd (n (yes_law.0 y))) (λ f. f)),
        );
        divided = divided;
      }

-- ---- by another rule
pub other_rule_lem : (r s : Rule) → install_number r ≡ none → (digest_of (built_of s) ≡ digest_of (built_of r) → ⊥)
    → (ws : List (List ℕ)) (t : Bracketed Summary) → Trace s ws t → (chunks : ℕ) → (concluded_by r t chunks).verdict ≡ refused_with 43
other_rule_lem r s takes differ ws t is chunks =
    let x = accepted_rule r takes in
    let y = accepted_rule s is.takes in
    ((summaries.claims).concluded (judge_of r) (value_of combine t) chunks).refused_43.1 (
      has_state r x.0 x.1,
      traces.whole s y.0 y.1 ws is.runs t is.are is.within,
      traces.first-is s y.0 y.1 ws is.runs t is.are is.within,
      λ e. differ (sym (traces.rule_is s y.0 y.1 ws is.runs t is.are) ∙ e),
    )
