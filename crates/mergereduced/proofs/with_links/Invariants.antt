-- `with_links` meets its contract. The loop's invariant: the numbers below p that q is linked to
-- are in `out`, with the set. Assumes nothing.
use mathlib.Core.Path.{◌≡◌}
use lib.Bits.{bit_or}
use lib.ListN.{length}
use Rattle.masks.specs.Masks.{mask_of}
use Rattle.merging.specs.Merged.{states_of}
use Rattle.mergereduced.specs.mirror.Asked.{set_in, link_in, link_by}
use Rattle.mergereduced.proofs.with_links.Given as goal

abbrev pub invariant-loop-p : goal.invariant-loop-p
invariant-loop-p l =
    (length l.out ≡ 1024) × (l.n ≡ states_of l.way l.n1 l.n2)
    × (set_in l.out ≡ bit_or (set_in l.initial.out) (mask_of (link_by l.forth (link_in l.way l.n1 l.n2 l.m1 l.m2) l.q) l.p))
