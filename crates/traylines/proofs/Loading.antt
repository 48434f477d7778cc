-- A rule file is read, and its rule installed. Assumes nothing.
--
--   unread, installs          a file that reading refuses, and one whose rule is installed: whatever
--                             an installation leaves
--   file_unread, row_read, column_read   of a file for the rows, and of one for the columns
use mathlib.Core.Path.{◌≡◌, sym, ap, ◌∙◌}
use mathlib.Core.Bool.{Bool, true, false}
use mathlib.Core.List.{List}
use mathlib.Core.Option.{Option, none, some}
use Prim.Native.Nat.{ℕ}
use Rattle.std.proofs.Common.{Ok, Err}
use Rattle.base.specs.declared.Refusal.{Refusal}
use Rattle.base.specs.Answers.{refusal_number}
use Rattle.automaton.specs.declared.Rule.{Rule}
use Rattle.ruleformat.specs.Refusals.{refusal}
use Rattle.ruleformat.specs.Reader.{rule_of, rule_by, Reading, read_outcome, read_of}
use Rattle.calls.specs.Calls.{install_number, load_number}
use Rattle.calls.proofs.Conditions.{load_number_lem, load_installs}
use Rattle.trays.specs.declared.Tray.{Tray}
use Rattle.trays.specs.Replies.{refused, with_sets}
use Rattle.trays.specs.mirror.Steps.{Outcome, outcome_by, with_row, with_column, install_row_of, install_column_of}
use Rattle.traylines.specs.Running.{load_row_of, load_column_of, load_of}

module _ (t : Tray) (f : List ℕ) where
  -- with `next r` the tray that the rule r leaves
  module _ (next : Rule → Tray) where
    unread : (e : Refusal) → read_outcome (Err e) ≡ read_of f
        → record { reply = refused (refusal_number e); state = t } ≡ outcome_by (load_number f) (with_sets (rule_of f)) t (next (rule_of f))
    unread e is =
        let refused_by_lem : refusal f ≡ some (refusal_number e) = sym (ap (λ (x : Reading). x.number) is) in
        rw (load_number_lem f, refused_by_lem)

    installs : (r : Rule) → read_outcome (Ok r) ≡ read_of f
        → outcome_by (install_number r) (with_sets r) t (next r) ≡ outcome_by (load_number f) (with_sets (rule_of f)) t (next (rule_of f))
    installs r is =
        let passes : refusal f ≡ none = sym (ap (λ (x : Reading). x.number) is) in
        let rule : r ≡ rule_of f = ap (λ (x : Reading). x.rule) is ∙ ap (λ (o : Option ℕ). rule_by o f) passes in
        ap (λ (x : Rule). outcome_by (install_number x) (with_sets x) t (next x)) rule
        ∙ ap (λ (o : Option ℕ). outcome_by o (with_sets (rule_of f)) t (next (rule_of f))) (sym (load_installs f passes))

  pub file_unread : (rows : Bool) (e : Refusal) → read_outcome (Err e) ≡ read_of f
      → record { reply = refused (refusal_number e); state = t } ≡ load_of rows t f
  unfolding load_row_of load_column_of
  file_unread true e is = unread (with_row t) e is
  file_unread false e is = unread (with_column t) e is

  module _ (r : Rule) (is : read_outcome (Ok r) ≡ read_of f) (o : Outcome) where
    pub row_read : {rows : Bool} → rows ≡ true → o ≡ install_row_of t r → o ≡ load_of rows t f
    unfolding load_row_of install_row_of
    row_read side e = rw side (e ∙ installs (with_row t) r is)

    pub column_read : {rows : Bool} → rows ≡ false → o ≡ install_column_of t r → o ≡ load_of rows t f
    unfolding load_column_of install_column_of
    column_read side e = rw side (e ∙ installs (with_column t) r is)
