-- `pack` meets its contract: the masks from state q on are packed. Assumes nothing.
use mathlib.Core.Path.{◌≡◌}
use Prim.Native.Nat.{◌≤◌}
use Prim.Native.Nat.{◌≤◌}
use Prim.Native.Nat.{◌≤◌}
use lib.ListN.{drop}
use lib.ListN.{drop}
use lib.ListN.{drop}
use Rattle.mappings.specs.Packing.{pack}
use Rattle.mappings.proofs.pack.Given as goal

abbrev pub invariant-loop-q : goal.invariant-loop-q
invariant-loop-q l = (l.q ≤ 8) × (l.packed ≡ pack (drop l.q l.masks))
