-- The letters of a pattern from the left: the letter at a place is the one with its number, and
-- each letter of a pattern that bytes stand for is a symbol. Assumes nothing.
use mathlib.Core.Path.{◌≡◌, refl, sym, ap, ap₂, ◌∙◌}
use mathlib.Core.Logic.{inl, inr}
use mathlib.Core.List.{List, ◌++◌}
use Prim.Native.Nat.{ℕ, suc, ◌+◌, ◌<◌}
use native.Mathlib.Omega.{arith}
use lib.ListN.{length, get_or, length-append, get_or-append}
use lib.Seq.{get_or-append-add}
use Rattle.patterns.specs.Patterns.{Pattern, empty, letter, then, or, star, letters, count}
use Rattle.patterns.specs.Grammar.{Level, Parses, a_letter, brackets, a_star, nothing, next, first, other}
use Rattle.patterns.proofs.Theory.{Position, letter_at}
use Rattle.patterns.proofs.Numbers.{number}
use Rattle.patterns.proofs.Language.{Lettered}

pub counted : (p : Pattern) → length (letters p) ≡ count p
counted empty = refl
counted (letter s) = refl
counted (then p q) = length-append (letters p) (letters q) ∙ ap₂ ◌+◌ (counted p) (counted q)
counted (or p q) = length-append (letters p) (letters q) ∙ ap₂ ◌+◌ (counted p) (counted q)
counted (star p) = counted p

-- the letter with a number
pub record Numbered (p : Pattern) (o i s : ℕ) : Type 0 where
  pub index : ℕ
  pub is : i ≡ suc (o + index)
  pub within : index < count p
  pub there : get_or (letters p) index 0 ≡ s

-- in the first of two patterns, and in the second
in_left : (p q : Pattern) (o : ℕ) {i s : ℕ} → Numbered p o i s
    → (j : ℕ) × (i ≡ suc (o + j)) × (j < count p + count q) × (get_or (letters p ++ letters q) j 0 ≡ s)
in_left p q o n = (
  n.index,
  n.is,
  omega (arith, n.within),
  get_or-append (letters p) (letters q) 0 n.index (omega (arith, counted p, n.within)) ∙ n.there,
)

in_right : (p q : Pattern) (o : ℕ) {i s : ℕ} → Numbered q (o + count p) i s
    → (j : ℕ) × (i ≡ suc (o + j)) × (j < count p + count q) × (get_or (letters p ++ letters q) j 0 ≡ s)
in_right p q o n = (
  count p + n.index,
  omega (arith, n.is),
  omega (arith, n.within),
  ap (λ (x : ℕ). get_or (letters p ++ letters q) (x + n.index) 0) (sym (counted p))
      ∙ get_or-append-add (letters p) (letters q) n.index 0 ∙ n.there,
)

pub numbered : (p : Pattern) (o : ℕ) (x : Position p) → Numbered p o (number p o x) (letter_at p x)
numbered empty o x = absurd x
numbered (letter s) o x = record { index = 0; is = omega arith; within = omega arith; there = refl }
numbered (then p q) o (inl x) =
    let n = in_left p q o (numbered p o x) in record { index = n.0; is = n.1; within = n.2; there = n.3 }
numbered (then p q) o (inr y) =
    let n = in_right p q o (numbered q (o + count p) y) in record { index = n.0; is = n.1; within = n.2; there = n.3 }
numbered (or p q) o (inl x) =
    let n = in_left p q o (numbered p o x) in record { index = n.0; is = n.1; within = n.2; there = n.3 }
numbered (or p q) o (inr y) =
    let n = in_right p q o (numbered q (o + count p) y) in record { index = n.0; is = n.1; within = n.2; there = n.3 }
numbered (star p) o x =
    let n = numbered p o x in record { index = n.index; is = n.is; within = n.within; there = n.there }

pub lettered : {l : Level} {b : List ℕ} {p : Pattern} → Parses l b p → Lettered p
lettered (a_letter h) = h
lettered (brackets r) = lettered r
lettered (a_star r) = lettered r
lettered nothing = tt
lettered (next r t) = (lettered r, lettered t)
lettered (first r) = lettered r
lettered (other r t) = (lettered r, lettered t)
