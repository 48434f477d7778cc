-- `band_passes` meets its contract: the rows that are left pass exactly when all do. Assumes nothing.
use mathlib.Core.Path.{◌≡◌}
use Prim.Native.Nat.{◌+◌, ◌-◌, ◌*◌, ◌≤◌}
use lib.ListN.{length, drop}
use Rattle.trays.specs.Rows.{rows_of, rows_pass}
use Rattle.trayverdict.proofs.band_passes.Given as goal

abbrev pub invariant-loop : goal.invariant-loop
invariant-loop l =
    (l.at + (l.rows - l.counter) * l.width ≤ length l.cells) × (rows_pass l.rule (rows_of l.width l.rows (drop l.from l.cells)) ≡ rows_pass l.rule (rows_of l.width (l.rows - l.counter) (drop l.at l.cells)))
