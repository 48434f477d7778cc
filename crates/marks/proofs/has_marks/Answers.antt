-- `has_marks` meets its contract. The loop's invariant: the chunk has a mark exactly where one was
-- found or one is left. Assumes nothing.
use mathlib.Core.Path.{refl, sym, ◌∙◌}
use borrow.Author.Rules.{rules}
use Rattle.marks.proofs.Laws.{marked_here, marked_on, marked_none}
use Rattle.marks.proofs.has_marks.Goals.{else-byte, then-byte}
use Rattle.marks.proofs.has_marks.Goals as goal

pub loop-byte-init : goal.loop-byte-init
loop-byte-init c = (search rules, refl)

pub loop-byte-preserved : goal.loop-byte-preserved
loop-byte-preserved c =
    let l = c.loop-byte in
    let a = c.args in
    let h = c.loop-byte-test.true in (
      search rules,
      (elim c.if-byte.branch [ then-byte w ↦ rw w.found-is (l.invariant.1 ∙ marked_here a.chunk.now l.byte-index l.found h w.if-byte.true) | else-byte w ↦ rw w.found-is (l.invariant.1 ∙ marked_on a.chunk.now l.byte-index l.found h w.if-byte.false) ]),
    )

pub returns : goal.returns
returns c =
    let l = c.loop-byte in
    let a = c.args in
    sym (l.invariant.1 ∙ marked_none a.chunk.now l.byte-index l.found c.loop-byte-test.false)
