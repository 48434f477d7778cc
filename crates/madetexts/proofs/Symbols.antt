-- A made text has only symbols below k: as a text, and as a chunk. Assumes nothing.
use mathlib.Core.Path.{◌≡◌, refl, ap, ◌∙◌}
use mathlib.Core.Bool.{false}
use mathlib.Core.List.{List, [], ◌∷◌}
use Prim.Native.Nat.{ℕ, zero, suc, ◌≤◌}
use native.Mathlib.Nat.{mod-lt}
use native.Mathlib.Omega.{arith}
use lib.ListN.{length}
use borrow.Author.Tests.{ne_eqb}
use Rattle.automaton.specs.Automaton.{Text}
use Rattle.marks.specs.Marks.{marked, text_of}
use Rattle.marks.proofs.Claims as marks
use Rattle.chunks.specs.Chunks.{foreign}
use Rattle.chunks.proofs.Claims as chunks
use Rattle.madetexts.specs.Values.{next_value, made_text}

pub long : (k x n : ℕ) → length (made_text k x n) ≡ n
unfolding made_text
long k x zero = refl
long k x (suc n) = ap suc (long k (next_value x) n)

pub of_symbols : (k x n : ℕ) → 1 ≤ k → Text k (made_text k x n)
unfolding made_text
of_symbols k x zero h = tt
of_symbols k x (suc n) h = (mod-lt (next_value x) h, of_symbols k (next_value x) n h)

more_symbols : (k k' : ℕ) → k ≤ k' → (w : List ℕ) → Text k w → Text k' w
more_symbols k k' h [] t = tt
more_symbols k k' h (s ∷ w) t = (omega (arith, t.0), more_symbols k k' h w t.1)

unmarked_text : (w : List ℕ) → Text 16 w → marked w ≡ false
unfolding marked
unmarked_text [] t = refl
unmarked_text (s ∷ w) t = rw (ne_eqb s 255 (λ e. omega (arith, t.0))) (unmarked_text w t.1)

module _ (k x n : ℕ) (some : 1 ≤ k) (most : k ≤ 16) where
  pub no_marks : marked (made_text k x n) ≡ false
  no_marks = unmarked_text (made_text k x n) (more_symbols k 16 most (made_text k x n) (of_symbols k x n some))

  pub own_text : text_of (made_text k x n) ≡ made_text k x n
  own_text = (marks.claims).unmarked (made_text k x n) no_marks

  pub not_foreign : (k' : ℕ) → k ≤ k' → foreign (text_of (made_text k x n)) k' ≡ false
  not_foreign k' h =
      ap (λ (w : List ℕ). foreign w k') own_text
      ∙ ((chunks.claims).text_law (made_text k x n) k').1 (more_symbols k k' h (made_text k x n) (of_symbols k x n some))
