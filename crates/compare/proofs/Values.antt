-- An answer by value: the value carries it and tells it, and no other value carries it. Assumes nothing.
use mathlib.Core.Path.{◌≡◌, refl, sym, ap, ◌∙◌}
use mathlib.Core.List.{List, []}
use Prim.Native.Nat.{ℕ, ◌≤◌}
use native.Mathlib.Omega.{arith}
use lib.ListN.{length}
use Rattle.base.proofs.Lists.{zero_cells}
use Rattle.searches.proofs.Texts.{size, front, after, read, cells_are, no_cells}
use Rattle.compare.specs.declared.Which.{Which}
use Rattle.compare.specs.Compared.{Comparison, apart, same, refused}
use Rattle.compare.specs.Values.{Reply, Outcome, Carries, outcome_of, comparison_in}

abbrev Short : Comparison → Type 0
Short a = (which : Which) (w : List ℕ) → a ≡ apart which w → length w ≤ 511

pub outcome_tells : (a : Comparison) → Short a → comparison_in (outcome_of a) ≡ a
outcome_tells (apart which w) h = ap (apart which) (read w (h which w refl))
outcome_tells same h = refl
outcome_tells (refused x) h = refl

pub outcome_carries : (a : Comparison) → Short a → Carries a (outcome_of a)
outcome_carries (apart which w) h =
    let s = h which w refl in
    record { reply = refl; length = refl; size = size w s; front = front w s; zeros = after w s }
outcome_carries same h = record { reply = refl; length = refl; size = refl; front = λ c b. absurd (omega arith); zeros = λ c b. zero_cells 511 c }
outcome_carries (refused x) h =
    record { reply = refl; length = refl; size = refl; front = λ c b. absurd (omega arith); zeros = λ c b. zero_cells 511 c }

-- ---- no other value
made_of : (p : Reply) (n : ℕ) (cells : List ℕ) (o : Outcome) → o.reply ≡ p → o.length ≡ n → o.text ≡ cells
    → o ≡ record { reply = p; length = n; text = cells }
made_of p n cells o a b c = rw (← a, ← b, ← c)

pub carries_one : (a : Comparison) (o : Outcome) → Carries a o → o ≡ outcome_of a
carries_one (apart which w) o h = made_of _ _ _ o h.reply h.length (cells_are w o.text h.size h.front h.zeros)
carries_one same o h = made_of _ _ _ o h.reply h.length (cells_are [] o.text h.size h.front h.zeros ∙ sym no_cells)
carries_one (refused x) o h = made_of _ _ _ o h.reply h.length (cells_are [] o.text h.size h.front h.zeros ∙ sym no_cells)
