-- How many members a set has, and a step from set to set that is taken again and again.
--
--   rank m q       how many members of m are below q
--   turns f m i    f taken i times, from m
use Rattle.std.specs.Prelude.{ℕ, zero, suc}
use Rattle.base.specs.Totals.{total}
use Rattle.masks.specs.Masks.{bit}

abbrev pub rank : ℕ → ℕ → ℕ
rank m q = total (bit m) q

unfoldable pub turns : (ℕ → ℕ) → ℕ → ℕ → ℕ
turns f m zero = m
turns f m (suc i) = f (turns f m i)
