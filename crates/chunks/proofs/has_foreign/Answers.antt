-- `has_foreign` meets its contract. The loop's invariant: the chunk has a foreign byte exactly
-- where one was found or one is left. Assumes nothing.
use mathlib.Core.Path.{refl, sym, ◌∙◌}
use Rattle.chunks.proofs.Texts.{foreign_here, foreign_on, foreign_none}
use Rattle.chunks.proofs.has_foreign.Goals.{else-k-byte, then-k-byte}
use Rattle.chunks.proofs.has_foreign.Goals as goal

pub loop-byte-init : goal.loop-byte-init
loop-byte-init c = refl

pub loop-byte-preserved : goal.loop-byte-preserved
loop-byte-preserved c =
    let l = c.loop-byte in
    let a = c.args in
    let h = c.loop-byte-test.true in
    (elim c.if-k-byte.branch [
      | then-k-byte w ↦ rw w.found-is (l.invariant ∙ foreign_here a.chunk.now a.k l.byte-index l.found h w.if-k-byte.true)
      | else-k-byte w ↦ rw w.found-is (l.invariant ∙ foreign_on a.chunk.now a.k l.byte-index l.found h w.if-k-byte.false)
    ])

pub returns : goal.returns
returns c =
    let l = c.loop-byte in
    let a = c.args in
    sym (l.invariant ∙ foreign_none a.chunk.now a.k l.byte-index l.found c.loop-byte-test.false)
