-- The claims of specs/Claims.antt. Assumes nothing.
use mathlib.Core.Path.{◌≡◌, refl}
use mathlib.Core.List.{List, [], ◌∷◌, ◌++◌}
use Prim.Native.Nat.{ℕ, ◌≤◌, ◌<◌}
use native.Mathlib.Omega.{arith}
use borrow.Author.Tests.{ne_eqb}
use lib.ListN.{length}
use Rattle.lines.specs.Splitting.{up_to, lines_from, lines_of}
use Rattle.lines.specs.Claims.{NoFeed, Claims}
use Rattle.lines.proofs.Splits.{lines_last, lines_over}

no_feed_up : (l : List ℕ) → NoFeed l → length l ≤ length (up_to 10 l)
unfolding up_to
no_feed_up [] a = omega arith
no_feed_up (x ∷ l) a = rw (ne_eqb x 10 a.0) (omega (arith, no_feed_up l a.1))

no_line : lines_of [] ≡ []
unfolding lines_from
no_line = refl

line_ended : (l w : List ℕ) → NoFeed l → lines_of (l ++ (10 ∷ w)) ≡ l ∷ lines_of w
unfolding lines_from
line_ended l w a = lines_over l (10 ∷ w) [] (no_feed_up l a)

line_last : (l : List ℕ) → NoFeed l → 0 < length l → lines_of l ≡ l ∷ []
line_last [] a h = absurd (omega (arith, h))
line_last (x ∷ l) a h = lines_last (x ∷ l) [] (no_feed_up (x ∷ l) a)

pub claims : Claims
claims = record { no_line = no_line; line_ended = line_ended; line_last = line_last }
