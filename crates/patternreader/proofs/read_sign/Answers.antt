-- `read_sign` meets its contract: each sign goes to its function. Assumes nothing.
use mathlib.Core.Path.{◌≡◌, sym, ap, ◌∙◌}
use Prim.Native.Nat.{ℕ}
use Rattle.patternscan.specs.declared.Sign.{Sign}
use Rattle.patternscan.specs.declared.Sign.TheVariants.{Letter, Bar, Opens, Closes, Star}
use Rattle.patternreader.specs.declared.Reading.{Reading}
use Rattle.patternreader.specs.Reader.{commit_of, letter_of, bar_of, opened_of, closed_of, starred_of, after_sign}
use borrow.Author.Rules.{rules}
use Rattle.patternreader.proofs.read_sign.Goals as goal

module _ (r m x : Reading) (s : Sign) where
  w-letter : (a : ℕ) → s ≡ Letter a → m ≡ commit_of r → x ≡ letter_of m a → x ≡ after_sign r s
  w-letter a e f g = g ∙ ap (λ (y : Reading). letter_of y a) f ∙ sym (ap (after_sign r) e)

  w-bar : s ≡ Bar → m ≡ commit_of r → x ≡ bar_of m → x ≡ after_sign r s
  w-bar e f g = g ∙ ap (λ (y : Reading). bar_of y) f ∙ sym (ap (after_sign r) e)

  w-opens : s ≡ Opens → m ≡ commit_of r → x ≡ opened_of m → x ≡ after_sign r s
  w-opens e f g = g ∙ ap (λ (y : Reading). opened_of y) f ∙ sym (ap (after_sign r) e)

  w-closes : s ≡ Closes → m ≡ commit_of r → x ≡ closed_of m → x ≡ after_sign r s
  w-closes e f g = g ∙ ap (λ (y : Reading). closed_of y) f ∙ sym (ap (after_sign r) e)

  w-star : s ≡ Star → x ≡ starred_of r → x ≡ after_sign r s
  w-star e g = g ∙ sym (ap (after_sign r) e)

pub returns-in-Letter : goal.returns-in-Letter
returns-in-Letter c = search (rules, w-letter)

pub returns-in-Bar : goal.returns-in-Bar
returns-in-Bar c = search (rules, w-bar)

pub returns-in-Opens : goal.returns-in-Opens
returns-in-Opens c = search (rules, w-opens)

pub returns-in-Closes : goal.returns-in-Closes
returns-in-Closes c = search (rules, w-closes)

pub returns-in-Star : goal.returns-in-Star
returns-in-Star c = search (rules, w-star)
