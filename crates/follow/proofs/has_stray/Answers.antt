-- `has_stray` meets its contract. The loop's invariant: found says what is foreign in the bytes
-- passed. Assumes nothing.
use Rattle.std.proofs.Common.{ℕ, Bool, ◌||◌, List, take, sym, ap, ◌∙◌, arith, take_all}
use mathlib.Core.Bool.{or-false}
use Rattle.marks.specs.Marks.{text_of}
use Rattle.chunks.specs.Chunks.{foreign}
use Rattle.follow.proofs.Steps.{stray_more, stray_none, stray_found}
use Rattle.follow.proofs.has_stray.Goals.{else-is_stray, then-is_stray}
use Rattle.follow.proofs.has_stray.Goals as goal

pub loop-byte-init : goal.loop-byte-init
loop-byte-init c = (sym (stray_none c.args.k))

pub loop-byte-preserved : goal.loop-byte-preserved
loop-byte-preserved c =
    let l = c.loop-byte in
    let a = c.args in
    let so_far : List ℕ = take l.byte-index a.chunk.now in
    let is = stray_more a.chunk.now a.k l.byte-index (omega arith) in
    (elim c.if-is_stray.branch [
      | then-is_stray y ↦ y.found-is ∙ sym (is ∙ ap (λ (b : Bool). foreign (text_of so_far) a.k || b) (sym c.is_stray.ensures ∙ y.if-is_stray.true) ∙ stray_found (foreign (text_of so_far) a.k))
      | else-is_stray y ↦ y.found-is ∙ l.invariant ∙ sym (is ∙ ap (λ (b : Bool). foreign (text_of so_far) a.k || b) (sym c.is_stray.ensures ∙ y.if-is_stray.false) ∙ or-false (foreign (text_of so_far) a.k))
    ])

pub returns : goal.returns
returns c =
    let l = c.loop-byte in
    let a = c.args in
    l.invariant ∙ ap (λ (x : List ℕ). foreign (text_of x) a.k) (take_all l.byte-index a.chunk.now (omega arith))
