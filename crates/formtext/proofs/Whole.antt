-- What the parts of the text come to, over plain variables. Assumes nothing.
use Rattle.std.proofs.Common.{Ok, Err}
use mathlib.Core.Path.{◌≡◌, ap}
use mathlib.Core.List.{List}
use Prim.Native.Nat.{ℕ, ◌+◌, ◌*◌, ◌≤◌, min}
use native.Mathlib.Omega.{arith}
use lib.ListN.{length}
use Rattle.base.specs.declared.Refusal.{Refusal}
use Rattle.base.specs.Answers.{refusal_number}
use Rattle.base.specs.Lists.{joined}
use Rattle.text.specs.Writing.{Wrote}
use Rattle.text.proofs.Fitting.{put, ◌then◌}
use Rattle.ruletext.specs.RuleText.{refused_text}
use Rattle.forms.specs.declared.Form.{Form}
use Rattle.formmaker.specs.Making as making
use Rattle.formmaker.specs.Making.{made_outcome}
use Rattle.formfile.specs.Files.{form_for}
use Rattle.formtext.specs.FormText.{first_cell, set_line, head_line, form_text, text_by, text_for}

-- the first line and the others; that the others fit is what their writer makes sure of
pub whole : (f : Form) (count kept : ℕ) → count ≡ min f.sets 512 → kept ≡ first_cell f.kept count
    → {before mid after : List ℕ} {a b : ℕ} → 40484 ≤ length before
    → Wrote before 0 (head_line count f.symbols kept) mid a × (a ≤ 36)
    → Wrote mid a (joined (set_line f.failure f.kept f.cells) count) after b × (b ≤ a + 79 * count)
    → Wrote before 0 (form_text f) after b × (b ≤ 40484)
whole f count kept c-is k-is room head lines =
    let u = put (omega (arith, head.0.ends, head.1)) head.0 in
    let v = put (omega (arith, lines.0.ends, lines.1, head.1, u.kept)) lines.0 in
    (rw (k-is, c-is) at (u then v).wrote, omega (arith, lines.1, head.1, c-is))

module _ (f : List ℕ) where
  pub form_text_lem : (form : Form) → made_outcome (Ok form) ≡ form_for f → form_text form ≡ text_for f
  form_text_lem form is = ap (λ (m : making.Made). text_by m.number m.form) is

  pub refused_text_lem : (e : Refusal) → made_outcome (Err e) ≡ form_for f → refused_text (refusal_number e) ≡ text_for f
  refused_text_lem e is = ap (λ (m : making.Made). text_by m.number m.form) is
