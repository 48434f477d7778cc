-- What the functions do with a line that is held is what the definitions say. Assumes nothing.
--
--   changes_call, changes_stray   whether it may change the profile
--   skipped_ended                 one that is skipped leaves the list ended
--   stray_state, stray_text       one with a stray byte beyond the buffer
--   ran_state, ran_text           the state that a line leaves and whether the list has ended, and its
--                                 answer
--   asked_state, asked_text       the same of one that does not change the profile
--   not_changed                   what the test showed
use mathlib.Core.Path.{◌≡◌, refl, sym, ap, ap₂, ◌∙◌, subst}
use mathlib.Core.Bool.{Bool, true, false, not}
use mathlib.Core.List.{List}
use mathlib.Core.Option.{Option, none}
use Prim.Native.Nat.{ℕ}
use lib.ListN.{length, take}
use Rattle.text.specs.Writing.{Wrote}
use Rattle.longlines.specs.declared.Held.{Held}
use Rattle.longlines.specs.declared.Seen.{Seen}
use Rattle.longlines.specs.Holding.{seen_of}
use Rattle.longlines.proofs.Standing.{by_bytes, by_stray}
use Rattle.linetexts.specs.Feeding.{Outcome}
use Rattle.linetexts.specs.Beginnings.{held_step}
use Rattle.linetexts.specs.Lists.{Listed, list_of, skips_held}
use Rattle.linetexts.proofs.Lists.{skipped_state, run_held}
use Rattle.mapcalls.specs.declared.MapState.{MapState}
use Rattle.mapcalls.specs.Calls.{Call}
use Rattle.maplines.specs.declared.Said.{Said}
use Rattle.maplines.specs.Lines.{ask_in, line_in, changes}
use Rattle.maplines.specs.Answers.{left_by, Says}
use Rattle.maplines.proofs.Ways.{unchanged, stays as ask-stays}
use Rattle.mapstream.specs.Texts.{step_of, map_list, map_lines, changes_held}

-- ---- what may change, as it is tested
module _ (line : List ℕ) (held : Held) (seen : Seen) (is : seen ≡ seen_of line held) where
  pub changes_call : seen.hex ≡ true → (r : Bool) → r ≡ changes (take seen.length line) → r ≡ changes_held line held
  changes_call e r l = l ∙ by_bytes changes false line held seen is e

  pub changes_stray : seen.hex ≡ false → false ≡ changes_held line held
  changes_stray e = by_stray changes false line held seen is e

-- what a test on `!changes_held` shows
not-true : (b : Bool) → not b ≡ true → b ≡ false
not-true true e = sym e
not-true false e = refl

pub not_changed : {b c : Bool} → b ≡ c → not b ≡ true → c ≡ false
not_changed {b} {c} is e = sym is ∙ not-true b e

-- ---- `b` is what `skips` answered
module _ (s : MapState) (ended : Bool) (line : List ℕ) (held : Held) (b : Bool) (tested : b ≡ skips_held ended line held) where
  pub skipped_ended : b ≡ true → (r : Bool) → r ≡ ended → list_of s r ≡ (held_step map_lines (list_of s ended) line held).state
  skipped_ended taken r is = ap (list_of s) is ∙ skipped_state map_list s ended line held b tested taken

  module _ (left : b ≡ false) (seen : Seen) (is : seen ≡ seen_of line held) where
    by_line : seen.hex ≡ true → step_of s (line_in (take seen.length line)) ≡ held_step map_lines (list_of s ended) line held
    by_line e = by_bytes (map_list.step s) (map_list.stray s) line held seen is e ∙ run_held map_list s ended line held b tested left

    by_none : seen.hex ≡ false → step_of s none ≡ held_step map_lines (list_of s ended) line held
    by_none e = by_stray (map_list.step s) (map_list.stray s) line held seen is e ∙ run_held map_list s ended line held b tested left

    pub stray_state : seen.hex ≡ false → (r : Bool) → r ≡ true → list_of s r ≡ (held_step map_lines (list_of s ended) line held).state
    stray_state e r is = ap (list_of s) is ∙ ap (λ (x : Outcome (Listed MapState)). x.state) (by_none e)

    module _ (before after : List ℕ) (r : Said) where
      -- of the meaning o, which the line has
      module _ (o : Option Call) (same : step_of s o ≡ held_step map_lines (list_of s ended) line held) where
        state_by_lem : Says s o before after r → (t : MapState) → t ≡ left_by s o → list_of t r.ended ≡ (held_step map_lines (list_of s ended) line held).state
        state_by_lem says t l = ap₂ list_of l says.ended ∙ ap (λ (x : Outcome (Listed MapState)). x.state) same

        text_by_lem : Says s o before after r → Wrote before 0 (held_step map_lines (list_of s ended) line held).text after r.written
        text_by_lem says = subst (λ (x : Outcome (Listed MapState)). Wrote before 0 x.text after r.written) same says.text

      pub stray_text : seen.hex ≡ false → ((t : MapState) → Says t none before after r)
          → Wrote before 0 (held_step map_lines (list_of s ended) line held).text after r.written
      stray_text e says = text_by_lem none (by_none e) (says s)

      module _ (e : seen.hex ≡ true) where
        pub ran_state : (t : MapState) → t ≡ left_by s (line_in (take seen.length line)) → Says s (line_in (take seen.length line)) before after r
            → list_of t r.ended ≡ (held_step map_lines (list_of s ended) line held).state
        ran_state t l says = state_by_lem (line_in (take seen.length line)) (by_line e) says t l

        pub ran_text : Says s (line_in (take seen.length line)) before after r
            → Wrote before 0 (held_step map_lines (list_of s ended) line held).text after r.written
        ran_text says = text_by_lem (line_in (take seen.length line)) (by_line e) says

        -- one that does not change the profile
        module _ (quiet : changes_held line held ≡ false) (says : Says s (ask_in (take seen.length line)) before after r) where
          asked : step_of s (ask_in (take seen.length line)) ≡ held_step map_lines (list_of s ended) line held
          asked = ap (step_of s) (sym (unchanged (take seen.length line) (by_bytes changes false line held seen is e ∙ quiet))) ∙ by_line e

          pub asked_state : list_of s r.ended ≡ (held_step map_lines (list_of s ended) line held).state
          asked_state = state_by_lem (ask_in (take seen.length line)) asked says s (sym (ask-stays (take seen.length line) s))

          pub asked_text : Wrote before 0 (held_step map_lines (list_of s ended) line held).text after r.written
          asked_text = text_by_lem (ask_in (take seen.length line)) asked says
