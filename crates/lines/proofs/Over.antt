-- Texts whose bytes are all greater than some byte, which therefore do not split there. Assumes
-- nothing.
--
--   Over m w    each byte of w is greater than m
use mathlib.Core.Path.{◌≡◌, refl, ap, ◌∙◌}
use mathlib.Core.List.{List, [], ◌∷◌, ◌++◌, append_assoc, append-nil}
use mathlib.Core.Option.{some}
use Prim.Native.Nat.{ℕ, ◌≤◌, ◌<◌}
use native.Mathlib.Omega.{arith}
use borrow.Author.Tests.{eq-eqb, ne_eqb}
use Rattle.lines.specs.Splitting.{up_to, past, lines_from}

abbrev pub Over : ℕ → List ℕ → Type 0
Over m [] = Unit {0}
Over m (x ∷ w) = (m < x) × Over m w

pub over-append : (m : ℕ) (v w : List ℕ) → Over m v → Over m w → Over m (v ++ w)
over-append m [] w a b = b
over-append m (x ∷ v) w a b = (a.0, over-append m v w a.1 b)

pub over_less : (l m : ℕ) (w : List ℕ) → l ≤ m → Over m w → Over l w
over_less l m [] h a = a
over_less l m (x ∷ w) h a = (omega (arith, a.0), over_less l m w h a.1)

-- ---- a text up to a byte that it is over
module _ (c : ℕ) (y : List ℕ) where
  pub over_up : (v : List ℕ) → Over c v → up_to c (v ++ (c ∷ y)) ≡ v
  unfolding up_to
  over_up [] a = rw (eq-eqb c c refl)
  over_up (x ∷ v) a = rw (ne_eqb x c (λ e. omega (arith, a.0))) (ap (λ (l : List ℕ). x ∷ l) (over_up v a.1))

  pub over_past : (v : List ℕ) → Over c v → past c (v ++ (c ∷ y)) ≡ some y
  unfolding past
  over_past [] a = rw (eq-eqb c c refl)
  over_past (x ∷ v) a = rw (ne_eqb x c (λ e. omega (arith, a.0))) (over_past v a.1)

-- ---- a text up to a line feed
lines_over : (v line y : List ℕ) → Over 10 v → lines_from line (v ++ (10 ∷ y)) ≡ (line ++ v) ∷ lines_from [] y
unfolding lines_from
lines_over [] line y a = rw (append-nil line)
lines_over (x ∷ v) line y a =
    rw (ne_eqb x 10 (λ e. omega (arith, a.0))) (lines_over v (line ++ (x ∷ [])) y a.1 ∙ ap (λ (l : List ℕ). l ∷ lines_from [] y) (append_assoc line (x ∷ []) v))

pub over_line : (v y : List ℕ) → Over 10 v → lines_from [] (v ++ (10 ∷ y)) ≡ v ∷ lines_from [] y
over_line v y a = lines_over v [] y a
