-- `locate_marked` meets its contract: what stands at the start of the buffer is the chunk's text, which
-- is no longer than the chunk. Assumes nothing.
use mathlib.Core.Path.{sym, ap, ◌∙◌}
use mathlib.Core.List.{List}
use Prim.Native.Nat.{ℕ, ◌≤◌}
use native.Mathlib.Omega.{arith}
use lib.ListN.{length, length-replicate}
use lib.Seq.{length-take-le}
use Rattle.std.proofs.lemmas.Result.{err_from_is_err_and}
use Rattle.text.proofs.Fitting.{taken}
use Rattle.text.proofs.Rooms.{whole_within}
use Rattle.marks.specs.Marks.{text_of}
use Rattle.marks.proofs.Claims as marks
use Rattle.locating.specs.mirror.Pruning.{pruned}
use Rattle.locating.specs.Locating.{text_spot, in_chunk}
use Rattle.locating.proofs.Spotting.{marked_found}
use Rattle.locating.proofs.locate_marked.Goals as goal

short : (w : List ℕ) → length w ≤ 65536 → length (text_of w) ≤ 65536
short w h = omega (arith, (marks.claims).no_longer w)

pub slice_bounds-buffer-end : goal.slice_bounds-buffer-end
slice_bounds-buffer-end c =
    let packed = c.pack-len in
    whole_within packed.ensures packed.auto.text 65536 (short _ c.requires) (simp length-replicate (omega arith))

pub slice_bounds-locate_text-end : goal.slice_bounds-locate_text-end
slice_bounds-locate_text-end c =
    let packed = c.pack-len in
    sym (length-take-le packed.result packed.new.text
    (whole_within packed.ensures packed.auto.text 65536 (short _ c.requires) (simp length-replicate (omega arith))))

pub locate_text-requires : goal.locate_text-requires
locate_text-requires c = rw (taken c.pack-len.ensures) (short _ c.requires)

pub returns-in_err-found : goal.returns-in_err-found
returns-in_err-found c =
    let p = err_from_is_err_and c.from_residual.result c.from_residual.ensures.1 in
    rw (p.1, p.2) (ap (in_chunk c.args.chunk.now) (c.in_err-found.ensures ∙ rw (taken c.pack-len.ensures)))

pub returns : goal.returns
returns c =
    let a = c.args in
    marked_found _ _ _
    (text_spot a.sets.now (pruned a.sets.now a.next.now a.live a.count) a.singles.now a.starts a.k a.gap (text_of a.chunk.now))
    c.in_chunk.ensures
    (c.in_ok-found.ensures ∙ rw (taken c.pack-len.ensures))
