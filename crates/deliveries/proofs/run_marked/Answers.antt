-- `run_marked` meets its contract: what stands at the start of the buffer is the chunk's text, which
-- is no longer than the chunk. Assumes nothing.
use mathlib.Core.Path.{sym, ◌∙◌}
use mathlib.Core.List.{List}
use Prim.Native.Nat.{ℕ, ◌≤◌}
use native.Mathlib.Omega.{arith}
use lib.ListN.{length, length-replicate}
use lib.Seq.{length-take-le}
use Rattle.text.proofs.Fitting.{taken}
use Rattle.text.proofs.Rooms.{whole_within}
use Rattle.marks.specs.Marks.{text_of}
use Rattle.marks.proofs.Claims as marks
use Rattle.deliveries.proofs.run_marked.Goals as goal

short : (w : List ℕ) → length w ≤ 65536 → length (text_of w) ≤ 65536
short w h = omega (arith, (marks.claims).no_longer w)

pub slice_bounds-buffer-end : goal.slice_bounds-buffer-end
slice_bounds-buffer-end c =
    let packed = c.pack-n in
    whole_within packed.ensures packed.auto.text 65536 (short _ c.requires) (simp length-replicate (omega arith))

pub slice_bounds-run_text-end : goal.slice_bounds-run_text-end
slice_bounds-run_text-end c =
    let packed = c.pack-n in
    sym (length-take-le packed.result packed.new.text
    (whole_within packed.ensures packed.auto.text 65536 (short _ c.requires) (simp length-replicate (omega arith))))

pub run_text-requires : goal.run_text-requires
run_text-requires c =
    rw (taken c.pack-n.ensures) (short _ c.requires)

pub returns : goal.returns
returns c = c.run_text.ensures ∙ rw (taken c.pack-n.ensures)
