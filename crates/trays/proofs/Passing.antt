-- Which bytes 39 and 13 let pass, and what an accepted installation leaves. Assumes nothing.
use mathlib.Core.Path.{◌≡◌, refl, ap, ◌∙◌}
use mathlib.Core.Logic.{◌↔◌}
use mathlib.Core.Bool.{false, not}
use mathlib.Core.List.{List}
use Prim.Native.Nat.{ℕ, ◌*◌, ◌/◌, ◌%◌, ◌≤◌}
use native.Mathlib.Nat.{mul-mod_left, mul-div_cancel, div-add-mod'}
use native.Mathlib.Omega.{arith}
use lib.Dec.{eqb, ltb}
use lib.ListN.{length}
use borrow.Author.Tests.{eq-eqb, eqb-true, le-ltb, not-false}
use Rattle.base.proofs.Tests.{or_left, or_right, or_neither}
use Rattle.automaton.specs.declared.Rule.{Rule}
use Rattle.automaton.specs.Automaton.{Text}
use Rattle.chunks.specs.Chunks.{foreign}
use Rattle.chunks.proofs.Claims as chunks
use Rattle.trays.specs.declared.Tray.{Tray}
use Rattle.trays.specs.Calls.{not_rows, foreign_to}
use Rattle.trays.specs.Boards.{empty_board}
use Rattle.trays.specs.mirror.Steps.{install_row_of, install_column_of}
use Rattle.trays.specs.Claims.{InstallLaw}
use Rattle.trays.proofs.Bands.{few_rows}

pub whole_rows : (w : ℕ) (b : List ℕ) → 1 ≤ w → (not_rows w b ≡ false) ↔ ((n : ℕ) × (n ≤ 64) × (length b ≡ n * w))
whole_rows w b wide = (
  (λ e.
      let left = or_left (not (eqb (length b % w) 0)) (ltb 64 (length b / w)) e in
      let even : length b % w ≡ 0 = eqb-true (length b % w) 0 (not-false (eqb (length b % w) 0) left) in
      (length b / w, few_rows w b e, omega (arith, div-add-mod' (length b) w))),
  λ x.
      let even : length b % w ≡ 0 = ap (λ (y : ℕ). y % w) x.2 ∙ mul-mod_left x.0 w in
      let count : length b / w ≡ x.0 = ap (λ (y : ℕ). y / w) x.2 ∙ mul-div_cancel x.0 wide in
      rw (eq-eqb (length b % w) 0 even, count) (le-ltb 64 x.0 x.1),
)

pub both_texts : (kr kc : ℕ) (b : List ℕ) → (foreign_to kr kc b ≡ false) ↔ (Text kr b × Text kc b)
both_texts kr kc b =
    let row = (chunks.claims).text_law b kr in
    let column = (chunks.claims).text_law b kc in (
      (λ e. (row.0 (or_left (foreign b kr) (foreign b kc) e), column.0 (or_right (foreign b kr) (foreign b kc) e))),
      λ x. or_neither (foreign b kr) (foreign b kc) (row.1 x.0) (column.1 x.1),
    )

pub install_law : (t : Tray) (r : Rule) → InstallLaw t r
unfolding install_row_of install_column_of empty_board
install_law t r = record {
  row = λ e. rw e (refl, refl, refl);
  column = λ e. rw e (refl, refl, refl);
}
