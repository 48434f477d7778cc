-- Every text of lines of `formtable` is answered right, however it is cut into blocks and however far
-- each round goes. Assumes nothing.
use mathlib.Core.Path.{◌≡◌, refl, ap}
use mathlib.Core.List.{List}
use mathlib.Core.Option.{Option, none, some}
use Prim.Native.Nat.{ℕ, ◌+◌, ◌<◌}
use native.Mathlib.Omega.{arith}
use lib.ListN.{length}
use Rattle.answers.specs.Answers.{malformed_text}
use Rattle.linetexts.specs.Beginnings.{KeepsLine}
use Rattle.linetexts.specs.Alone.{Answers}
use Rattle.linetexts.proofs.Alone.{answered_lines}
use Rattle.forms.specs.declared.Form.{Form}
use Rattle.formline.specs.Lines.{line_in, longest_line}
use Rattle.formline.proofs.Bounds.{bounded}
use Rattle.tabletext.specs.Answers.{answer_text, most_answer}
use Rattle.formstream.specs.Texts.{answer_to, form_lines}

too_long : (w : List ℕ) → longest_line < length w → line_in w ≡ none
too_long w h = go (line_in w) refl
  where
    go : (o : Option Form) → line_in w ≡ o → line_in w ≡ none
    go none e = e
    go (some f) e = absurd (let l = bounded w f e in omega arith)

pub answers : Answers form_lines answer_to (KeepsLine (longest_line + 1))
answers = answered_lines answer_to malformed_text longest_line most_answer (λ w long. ap answer_text (too_long w long))
