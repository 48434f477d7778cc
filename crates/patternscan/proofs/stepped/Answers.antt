-- `stepped` meets its contract: a lemma for each way out. Assumes nothing.
use mathlib.Core.Path.{◌≡◌, refl, sym, ap, ◌∙◌}
use mathlib.Core.Bool.{Bool, true, false}
use Prim.Native.Nat.{ℕ, zero, suc, ◌+◌, ◌-◌}
use native.Mathlib.Numerals.{add-one}
use native.Mathlib.Omega.{arith}
use Rattle.patternscan.specs.declared.Sign.{Sign}
use Rattle.patternscan.specs.declared.Sign.TheVariants.{Letter, Bar, Opens, Closes, Star}
use Rattle.patternscan.specs.Scanning.{within, step}
use borrow.Author.Rules.{rules}
use Rattle.patternscan.proofs.stepped.Goals as goal

module _ (s : Sign) (d : ℕ) (f : Bool) where
  w-letter : (a : ℕ) → s ≡ Letter a → within d true ≡ step s (within d f)
  w-letter a e = sym (ap (λ (x : Sign). step x (within d f)) e)

  w-bar : s ≡ Bar → within d false ≡ step s (within d f)
  w-bar e = sym (ap (λ (x : Sign). step x (within d f)) e)

  w-opens : s ≡ Opens → within (d + 1) false ≡ step s (within d f)
  w-opens e = ap (λ (n : ℕ). within n false) (add-one d) ∙ sym (ap (λ (x : Sign). step x (within d f)) e)

  w-star : s ≡ Star → f ≡ true → within d true ≡ step s (within d f)
  w-star e g = sym (ap (λ (x : Sign). step x (within d f)) e ∙ ap (λ (x : Bool). step Star (within d x)) g)

closed : (d : ℕ) (f : Bool) → (d ≡ 0 → ⊥) → within (d - 1) true ≡ step Closes (within d f)
closed zero f n = absurd (n refl)
closed (suc d) f n = let e : suc d - 1 ≡ d = omega arith in ap (λ (x : ℕ). within x true) e

w-closes : (s : Sign) (d : ℕ) (f : Bool) → s ≡ Closes → (d ≡ 0 → ⊥) → within (d - 1) true ≡ step s (within d f)
w-closes s d f e n = closed d f n ∙ sym (ap (λ (x : Sign). step x (within d f)) e)

pub returns-then-starry : goal.returns-then-starry
returns-then-starry c = search (rules, w-star)

pub returns-in-Letter : goal.returns-in-Letter
returns-in-Letter c = search (rules, w-letter)

pub returns-in-Bar : goal.returns-in-Bar
returns-in-Bar c = search (rules, w-bar)

pub returns-in-Opens : goal.returns-in-Opens
returns-in-Opens c = search (rules, w-opens)

pub returns-else-depth-eq0 : goal.returns-else-depth-eq0
returns-else-depth-eq0 c = search (rules, w-closes)
