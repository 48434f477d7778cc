-- `sign_of` meets its contract: a lemma for each way out. Assumes nothing.
use mathlib.Core.Path.{◌≡◌}
use Prim.Native.Nat.{ℕ, ◌-◌, ◌<◌, ◌≤◌}
use borrow.Author.Rules.{rules}
use borrow.Author.Tests.{lt-ltb, le-ltb, le-leb, lt-leb, eq-eqb, ne_eqb}
use Rattle.patternscan.specs.declared.Sign.TheVariants.{Letter, Bar, Opens, Closes, Star, Foreign}
use Rattle.patternscan.specs.Signs.{sign_of}
use Rattle.patternscan.proofs.sign_of.Goals as goal

module _ (b : ℕ) where
  w-opens : b < 97 → b ≡ 40 → Opens ≡ sign_of b
  unfolding sign_of
  w-opens l e = rw (lt-ltb b 97 l, eq-eqb b 40 e)

  w-closes : b < 97 → (b ≡ 40 → ⊥) → b ≡ 41 → Closes ≡ sign_of b
  unfolding sign_of
  w-closes l n e = rw (lt-ltb b 97 l, ne_eqb b 40 n, eq-eqb b 41 e)

  w-star : b < 97 → (b ≡ 40 → ⊥) → (b ≡ 41 → ⊥) → b ≡ 42 → Star ≡ sign_of b
  unfolding sign_of
  w-star l n m e = rw (lt-ltb b 97 l, ne_eqb b 40 n, ne_eqb b 41 m, eq-eqb b 42 e)

  w-low : b < 97 → (b ≡ 40 → ⊥) → (b ≡ 41 → ⊥) → (b ≡ 42 → ⊥) → Foreign ≡ sign_of b
  unfolding sign_of
  w-low l n m o = rw (lt-ltb b 97 l, ne_eqb b 40 n, ne_eqb b 41 m, ne_eqb b 42 o)

  w-letter : 97 ≤ b → b ≤ 112 → Letter (b - 97) ≡ sign_of b
  unfolding sign_of
  w-letter l h = rw (le-ltb b 97 l, le-leb b 112 h)

  w-bar : 97 ≤ b → 112 < b → b ≡ 124 → Bar ≡ sign_of b
  unfolding sign_of
  w-bar l h e = rw (le-ltb b 97 l, lt-leb b 112 h, eq-eqb b 124 e)

  w-high : 97 ≤ b → 112 < b → (b ≡ 124 → ⊥) → Foreign ≡ sign_of b
  unfolding sign_of
  w-high l h n = rw (le-ltb b 97 l, lt-leb b 112 h, ne_eqb b 124 n)

pub returns-then-b-eq40 : goal.returns-then-b-eq40
returns-then-b-eq40 c = search (rules, w-opens)

pub returns-then-b-eq41 : goal.returns-then-b-eq41
returns-then-b-eq41 c = search (rules, w-closes)

pub returns-then-b-eq42 : goal.returns-then-b-eq42
returns-then-b-eq42 c = search (rules, w-star)

pub returns-then-b-lt97 : goal.returns-then-b-lt97
returns-then-b-lt97 c = search (rules, w-low)

pub returns-then-b-le112 : goal.returns-then-b-le112
returns-then-b-le112 c = search (rules, w-letter)

pub returns-then-b-eq124 : goal.returns-then-b-eq124
returns-then-b-eq124 c = search (rules, w-bar)

pub returns : goal.returns
returns c = search (rules, w-high)
