-- What the functions do with a line that is held is what the definitions say. Assumes nothing.
--
--   ran, stray              a line that has ended, by what the bytes left out are
--   held_state, held_text   the state that a line leaves and whether the list has ended, and its answer
use mathlib.Core.Path.{◌≡◌, ap, ◌∙◌, subst}
use mathlib.Core.Bool.{Bool, true, false}
use mathlib.Core.List.{List}
use mathlib.Core.Option.{none}
use Prim.Native.Nat.{ℕ}
use lib.ListN.{take}
use Rattle.base.specs.Options.{is_none}
use Rattle.text.specs.Writing.{Wrote}
use Rattle.longlines.specs.declared.Held.{Held}
use Rattle.longlines.specs.declared.Seen.{Seen}
use Rattle.longlines.specs.Holding.{seen_of, held_meaning}
use Rattle.longlines.proofs.Standing.{by_bytes, by_stray}
use Rattle.linetexts.specs.Feeding.{Outcome}
use Rattle.linetexts.specs.Beginnings.{held_step}
use Rattle.linetexts.specs.Lists.{Listed, list_of, skips_held}
use Rattle.linetexts.proofs.Lists.{run_held}
use Rattle.followcalls.specs.declared.FollowState.{FollowState}
use Rattle.followcalls.specs.declared.Traced.{Traced}
use Rattle.followcalls.specs.Calls.{Outcome as CallOutcome, answer_means, traced_means}
use Rattle.followlines.specs.Lines.{line_in}
use Rattle.followlines.specs.Answers.{response_text, line_step}
use Rattle.followstream.specs.Texts.{told_as, follow_list, follow_lines}

module _ (line : List ℕ) (held : Held) (seen : Seen) (is : seen ≡ seen_of line held) (s : FollowState) (o : CallOutcome) where
  pub ran : seen.hex ≡ true → o ≡ line_step s (line_in (take seen.length line))
      → told_as o ≡ held_meaning (follow_list.step s) (follow_list.stray s) line held
  ran e l = ap told_as l ∙ by_bytes (follow_list.step s) (follow_list.stray s) line held seen is e

  pub stray : seen.hex ≡ false → o ≡ line_step s none → told_as o ≡ held_meaning (follow_list.step s) (follow_list.stray s) line held
  stray e l = ap told_as l ∙ by_stray (follow_list.step s) (follow_list.stray s) line held seen is e

module _ (s : FollowState) (ended : Bool) (line : List ℕ) (held : Held) (b : Bool) (tested : b ≡ skips_held ended line held) (left : b ≡ false)
    (run : Traced) (is : told_as (traced_means run) ≡ held_meaning (follow_list.step s) (follow_list.stray s) line held) where
  told_as_lem : told_as (traced_means run) ≡ held_step follow_lines (list_of s ended) line held
  told_as_lem = is ∙ run_held follow_list s ended line held b tested left

  pub held_state : (after : Bool) → after ≡ is_none (answer_means run.answer) → list_of run.state after ≡ (held_step follow_lines (list_of s ended) line held).state
  held_state after e = ap (list_of run.state) e ∙ ap (λ (o : Outcome (Listed FollowState)). o.state) told_as_lem

  pub held_text : (before after : List ℕ) (end : ℕ) → Wrote before 0 (response_text (answer_means run.answer)) after end
      → Wrote before 0 (held_step follow_lines (list_of s ended) line held).text after end
  held_text before after end wrote = subst (λ (o : Outcome (Listed FollowState)). Wrote before 0 o.text after end) told_as_lem wrote
