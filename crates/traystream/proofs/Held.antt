-- What the functions do with a line that is held is what the definitions say. Assumes nothing.
--
--   ran, stray              a line that has ended, by what the bytes left out are
--   held_state, held_text   the tray that a line leaves and whether the list has ended, and its answer
use mathlib.Core.Path.{◌≡◌, ap, ◌∙◌, subst}
use mathlib.Core.Bool.{Bool, true, false}
use mathlib.Core.List.{List}
use Prim.Native.Nat.{ℕ}
use lib.ListN.{length, take}
use Rattle.text.specs.Writing.{Wrote}
use Rattle.longlines.specs.declared.Held.{Held}
use Rattle.longlines.specs.declared.Seen.{Seen}
use Rattle.longlines.specs.Holding.{seen_of, held_meaning}
use Rattle.longlines.proofs.Standing.{by_bytes, by_stray}
use Rattle.linetexts.specs.Feeding.{Outcome}
use Rattle.linetexts.specs.Beginnings.{held_step}
use Rattle.linetexts.specs.Lists.{Listed, list_of, skips_held}
use Rattle.linetexts.proofs.Lists.{run_held}
use Rattle.trays.specs.declared.Tray.{Tray}
use Rattle.traytext.specs.Lines.{malformed, line_in}
use Rattle.traytext.specs.Answers.{is_malformed, response_text, answer_means}
use Rattle.traylines.specs.declared.LineRun.{LineRun}
use Rattle.traylines.specs.Running.{LineOutcome, line_step, run_outcome}
use Rattle.traystream.specs.Texts.{told_as, tray_list, tray_lines}

module _ (line : List ℕ) (held : Held) (seen : Seen) (is : seen ≡ seen_of line held) (t : Tray) (o : LineOutcome) where
  pub ran : seen.hex ≡ true → o ≡ line_step t (line_in (take seen.length line))
      → told_as o ≡ held_meaning (tray_list.step t) (tray_list.stray t) line held
  ran e l = ap told_as l ∙ by_bytes (tray_list.step t) (tray_list.stray t) line held seen is e

  pub stray : seen.hex ≡ false → o ≡ line_step t malformed → told_as o ≡ held_meaning (tray_list.step t) (tray_list.stray t) line held
  stray e l = ap told_as l ∙ by_stray (tray_list.step t) (tray_list.stray t) line held seen is e

module _ (t : Tray) (ended : Bool) (line : List ℕ) (held : Held) (b : Bool) (tested : b ≡ skips_held ended line held) (left : b ≡ false)
    (run : LineRun) (is : told_as (run_outcome run) ≡ held_meaning (tray_list.step t) (tray_list.stray t) line held) where
  told_as_lem : told_as (run_outcome run) ≡ held_step tray_lines (list_of t ended) line held
  told_as_lem = is ∙ run_held tray_list t ended line held b tested left

  pub held_state : (after : Bool) → after ≡ is_malformed (answer_means run.answer) → list_of run.tray after ≡ (held_step tray_lines (list_of t ended) line held).state
  held_state after e = ap (list_of run.tray) e ∙ ap (λ (o : Outcome (Listed Tray)). o.state) told_as_lem

  pub held_text : (before after : List ℕ) (end : ℕ) → Wrote before 0 (response_text (answer_means run.answer)) after end
      → Wrote before 0 (held_step tray_lines (list_of t ended) line held).text after end
  held_text before after end wrote = subst (λ (o : Outcome (Listed Tray)). Wrote before 0 o.text after end) told_as_lem wrote
