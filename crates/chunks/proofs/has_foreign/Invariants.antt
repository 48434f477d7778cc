-- `has_foreign` meets its contract. The loop's invariant: the chunk has a foreign byte exactly
-- where one was found or one is left. Assumes nothing.
use mathlib.Core.Path.{◌≡◌}
use mathlib.Core.Bool.{◌||◌}
use lib.ListN.{drop}
use Rattle.chunks.specs.Chunks.{foreign}
use Rattle.chunks.proofs.has_foreign.Given as goal

abbrev pub invariant-loop-byte : goal.invariant-loop-byte
invariant-loop-byte l = foreign l.chunk l.k ≡ l.found || foreign (drop l.byte-index l.chunk) l.k
