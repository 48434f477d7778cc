-- `build` meets its contract. The loop's invariant: the table has the arcs of the sections before
-- q, and no others. Assumes nothing.
use Rattle.ruleformat.proofs.Tables.{cell_up_to}
use Rattle.ruleformat.specs.Refusals.{refusal}
use Rattle.ruleformat.specs.Format.{state_count}
use lib.ListN.{length, get_or}
use Prim.Native.Nat.{ℕ, ◌+◌, ◌*◌, ◌≤◌}
use mathlib.Core.Option.{none}
use mathlib.Core.Path.{◌≡◌}
use Rattle.rulefile.proofs.build.Given as goal

abbrev pub invariant-loop-q : goal.invariant-loop-q
invariant-loop-q l =
    (l.n ≡ state_count l.file) × (l.n ≤ 32) × (10 + 4 * l.n ≤ length l.file) × (refusal l.file ≡ none) × (length l.targets ≡ 512)
    × ((cell : ℕ) → get_or l.targets cell 0 ≡ cell_up_to l.file l.q cell)
