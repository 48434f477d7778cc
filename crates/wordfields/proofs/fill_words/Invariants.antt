-- `fill_words` meets its contract. The loop's invariant: the numbers passed are stored, and zeros
-- stand behind them. Assumes nothing.
use mathlib.Core.Path.{◌≡◌}
use Prim.Native.Nat.{◌*◌, ◌-◌, ◌%◌, ◌≤◌}
use lib.ListN.{length}
use Rattle.forms.proofs.Filling.{Filled}
use Rattle.wordfields.specs.Words.{word_at}
use Rattle.wordfields.proofs.fill_words.Given as goal

abbrev pub invariant-loop-i : goal.invariant-loop-i
invariant-loop-i l =
    (2 * l.i ≤ length l.bytes) × (length l.bytes % 2 ≡ 0) × (length l.bytes ≤ 2 * length l.initial.words) × (length l.words ≡ length l.initial.words)
    × Filled (length l.initial.words) 0 (word_at l.bytes) l.i l.words

abbrev pub decreases-loop-i : goal.decreases-loop-i
decreases-loop-i l = length l.bytes - 2 * l.i
