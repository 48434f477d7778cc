-- The laws of `foreign`: byte by byte, and that no byte is foreign exactly in a text. Assumes
-- nothing.
use mathlib.Core.Path.{◌≡◌, refl}
use mathlib.Core.Logic.{◌↔◌}
use mathlib.Core.Bool.{Bool, true, false, ◌||◌, true≢false, or-true, or-false}
use mathlib.Core.List.{List, [], ◌∷◌}
use Prim.Native.Nat.{ℕ, ◌+◌, ◌≤◌, ◌<◌}
use native.Mathlib.Numerals.{add-one}
use borrow.Author.Tests.{le-leb, lt-leb, leb-false}
use lib.Dec.{leb}
use lib.ListN.{length, get_or, drop, drop_of_length-le}
use lib.Seq.{drop-cons}
use Rattle.base.proofs.Tests.{by_test}
use Rattle.automaton.specs.Automaton.{Text}
use Rattle.chunks.specs.Chunks.{foreign}

-- ---- what is left to look at from byte i on, where `found` says whether a byte before is foreign
module _ (w : List ℕ) (k i : ℕ) (found : Bool) where
  pub foreign_here : i < length w → k ≤ get_or w i 0 → found || foreign (drop i w) k ≡ true
  unfolding foreign
  foreign_here h l = rw (drop-cons w i 0 h, le-leb k (get_or w i 0) l) (or-true found)

  pub foreign_on : i < length w → get_or w i 0 < k → found || foreign (drop i w) k ≡ found || foreign (drop (i + 1) w) k
  unfolding foreign
  foreign_on h l = rw (add-one, drop-cons w i 0 h, lt-leb k (get_or w i 0) l)

  pub foreign_none : length w ≤ i → found || foreign (drop i w) k ≡ found
  unfolding foreign
  foreign_none h = rw (drop_of_length-le w h) (or-false found)

text-of : (w : List ℕ) (k : ℕ) → foreign w k ≡ false → Text k w
unfolding foreign
text-of [] k e = tt
text-of (b ∷ w) k e =
    by_test (leb k b)
    (λ t. absurd (true≢false (rw t at e)))
    (λ t. (leb-false k b t, text-of w k (rw t at e)))

no_foreign : (w : List ℕ) (k : ℕ) → Text k w → foreign w k ≡ false
unfolding foreign
no_foreign [] k x = refl
no_foreign (b ∷ w) k x = rw (lt-leb k b x.0) (no_foreign w k x.1)

pub text_law : (w : List ℕ) (k : ℕ) → foreign w k ≡ false ↔ Text k w
text_law w k = (text-of w k, no_foreign w k)
