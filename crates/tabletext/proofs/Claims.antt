-- The one proof of all that specs/Claims.antt claims. Assumes nothing.
use mathlib.Core.Path.{◌≡◌, refl}
use mathlib.Core.List.{[], ◌∷◌}
use mathlib.Core.Option.{Option, none, some}
use Prim.Native.Nat.{ℕ, ◌*◌, ◌≤◌}
use native.Mathlib.Omega.{arith}
use lib.ListN.{length, length-append}
use Rattle.ruletext.specs.RuleText.{line_feed}
use Rattle.ruletext.proofs.Lengths.{refused_most}
use Rattle.forms.specs.declared.Form.{Form}
use Rattle.forms.specs.Back.{back_number, back_by, table_of}
use Rattle.forms.proofs.Accepting.{parts, no_other}
use Rattle.tabletext.specs.Answers.{cells_text, back_text, answer_text, most_answer}
use Rattle.tabletext.specs.Claims.{Claims}
use Rattle.tabletext.proofs.Examples.{worked}
use Rattle.tabletext.proofs.Lengths.{cells_most, few_cells}

back_most : (f : Form) (o : Option ℕ) → back_number f ≡ o → length (back_text (back_by o (table_of f))) ≤ most_answer
back_most f none e =
    let a = parts f e in
    let n = f.sets * f.symbols in
    omega (
      arith,
      few_cells f.sets f.symbols a.sets,
      a.symbols,
      cells_most (table_of f).next f.symbols n,
      length-append (cells_text (table_of f).next f.symbols n) (line_feed ∷ []),
    )
back_most f (some x) e = let q = no_other f x e in rw q (omega (arith, refused_most 40 (omega arith)))

pub fits : (o : Option Form) → length (answer_text o) ≤ most_answer
fits none = omega arith
fits (some f) = back_most f (back_number f) refl

pub claims : Claims
claims = record { worked = worked; fits = fits }
