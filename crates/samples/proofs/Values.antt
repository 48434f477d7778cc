-- An answer by value: the value carries it and tells it, and no other value carries it. Assumes nothing.
use mathlib.Core.Path.{◌≡◌, refl, sym, ap, ◌∙◌}
use mathlib.Core.List.{List, []}
use Prim.Native.Nat.{ℕ, ◌≤◌}
use native.Mathlib.Omega.{arith}
use lib.ListN.{length}
use Rattle.base.proofs.Lists.{zero_cells}
use Rattle.searches.proofs.Texts.{size, front, after, read, cells_are, no_cells}
use Rattle.samples.specs.Samples.{Sample, text, nothing, refused}
use Rattle.samples.specs.Values.{Reply, Outcome, word_of, Carries, outcome_of, sample_in}

abbrev Short : Sample → Type 0
Short a = (w : List ℕ) → a ≡ text w → length w ≤ 511

pub outcome_tells : (a : Sample) → Short a → sample_in (outcome_of a) ≡ a
outcome_tells (text w) h = ap text (read w (h w refl))
outcome_tells nothing h = refl
outcome_tells (refused x) h = refl

pub outcome_carries : (a : Sample) → Short a → Carries a (outcome_of a)
outcome_carries (text w) h =
    record { reply = refl; length = refl; size = size w (h w refl); front = front w (h w refl); zeros = after w (h w refl) }
outcome_carries nothing h = record { reply = refl; length = refl; size = refl; front = λ c b. absurd (omega arith); zeros = λ c b. zero_cells 511 c }
outcome_carries (refused x) h =
    record { reply = refl; length = refl; size = refl; front = λ c b. absurd (omega arith); zeros = λ c b. zero_cells 511 c }

-- ---- no other value
made_of : (p : Reply) (n : ℕ) (cells : List ℕ) (o : Outcome) → o.reply ≡ p → o.length ≡ n → o.text ≡ cells
    → o ≡ record { reply = p; length = n; text = cells }
made_of p n cells o a b c = rw (← a, ← b, ← c)

pub carries_one : (a : Sample) (o : Outcome) → Carries a o → o ≡ outcome_of a
carries_one (text w) o h = made_of _ _ _ o h.reply h.length (cells_are (word_of (text w)) o.text h.size h.front h.zeros)
carries_one nothing o h = made_of _ _ _ o h.reply h.length (cells_are [] o.text h.size h.front h.zeros ∙ sym no_cells)
carries_one (refused x) o h = made_of _ _ _ o h.reply h.length (cells_are (word_of (refused x)) o.text h.size h.front h.zeros ∙ sym no_cells)
