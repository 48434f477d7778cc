-- The condition of 13 holds exactly where some byte of the chunk is neither an idle mark nor a
-- symbol below k, byte by byte. Assumes nothing.
use mathlib.Core.Path.{◌≡◌}
use mathlib.Core.Bool.{true, ◌||◌, or-true}
use mathlib.Core.List.{List, [], ◌∷◌}
use Prim.Native.Nat.{ℕ, zero, suc, ◌<◌, ◌≤◌}
use native.Mathlib.Omega.{arith}
use lib.Dec.{eqb, leb}
use lib.ListN.{length, get_or}
use borrow.Author.Tests.{ne_eqb, eqb-false, le-leb, leb-true}
use Rattle.base.proofs.Tests.{by_test, zero_one}
use Rattle.marks.specs.Marks.{text_of}
use Rattle.chunks.specs.Chunks.{foreign}
use Rattle.calls.specs.Claims.{ForeignByte, ForeignExactly}

-- a byte further on
later : (b : ℕ) (w : List ℕ) (k : ℕ) → ForeignByte w k → ForeignByte (b ∷ w) k
later b w k x = (suc x.0, omega (arith, x.1), x.2, x.3)

to : (w : List ℕ) (k : ℕ) → foreign (text_of w) k ≡ true → ForeignByte w k
unfolding foreign text_of
to [] k e = zero_one cc
to (b ∷ w) k e =
    by_test (eqb b 255)
    (λ t. later b w k (to w k (rw t at e)))
    (λ t.
    let on : leb k b || foreign (text_of w) k ≡ true = rw t at e in
    by_test (leb k b)
    (λ l. (0, omega arith, eqb-false b 255 t, leb-true k b l))
    (λ l. later b w k (to w k (rw l at on))))

from : (w : List ℕ) (k i : ℕ) → i < length w → (get_or w i 0 ≡ 255 → ⊥) → k ≤ get_or w i 0 → foreign (text_of w) k ≡ true
unfolding foreign text_of
from [] k i h n l = absurd (omega (arith, h))
from (b ∷ w) k zero h n l = rw (ne_eqb b 255 n, le-leb k b l)
from (b ∷ w) k (suc i) h n l =
    by_test (eqb b 255)
    (λ t. rw t (from w k i (omega (arith, h)) n l))
    (λ t. rw t (rw (from w k i (omega (arith, h)) n l) (or-true (leb k b))))

pub foreign_exactly : ForeignExactly
foreign_exactly w k = (to w k, λ x. from w k x.0 x.1 x.2 x.3)
