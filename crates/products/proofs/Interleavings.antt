-- An interleaving and the marks of its symbols. Assumes nothing.
use mathlib.Core.Path.{◌≡◌, refl, ap}
use mathlib.Core.Logic.{◌↔◌}
use mathlib.Core.Bool.{Bool, true, false}
use mathlib.Core.List.{List, [], ◌∷◌}
use Prim.Native.Nat.{ℕ, suc}
use native.Mathlib.Omega.{arith}
use lib.ListN.{length}
use Rattle.products.specs.Interleavings.{Interleaving, ended, first, second, marked}

-- the marks of u and v in w
pub record Marks (u v w : List ℕ) : Type 0 where
  pub marks : List Bool
  pub each : length marks ≡ length w
  pub one : u ≡ marked true marks w
  pub two : v ≡ marked false marks w

marks_of : {u v w : List ℕ} → Interleaving u v w → Marks u v w
marks_of ended = record { marks = []; each = refl; one = refl; two = refl }
marks_of (first {s} t) =
    let m = marks_of t in
    record { marks = true ∷ m.marks; each = ap suc m.each; one = ap (λ (x : List ℕ). s ∷ x) m.one; two = m.two }
marks_of (second {s} t) =
    let m = marks_of t in
    record { marks = false ∷ m.marks; each = ap suc m.each; one = m.one; two = ap (λ (x : List ℕ). s ∷ x) m.two }

of_marks : (marks : List Bool) (w : List ℕ) → length marks ≡ length w
    → Interleaving (marked true marks w) (marked false marks w) w
of_marks [] [] e = ended
of_marks [] (s ∷ w) e = absurd (omega arith)
of_marks (m ∷ marks) [] e = absurd (omega arith)
of_marks (true ∷ marks) (s ∷ w) e = first (of_marks marks w (omega arith))
of_marks (false ∷ marks) (s ∷ w) e = second (of_marks marks w (omega arith))

pub by_marks : (u v w : List ℕ) → Interleaving u v w
    ↔ (marks : List Bool) × (length marks ≡ length w) × (u ≡ marked true marks w) × (v ≡ marked false marks w)
by_marks u v w = (
  (λ t. let m = marks_of t in (m.marks, m.each, m.one, m.two)),
  λ m. rw (m.2, m.3) (of_marks m.0 w m.1),
)
