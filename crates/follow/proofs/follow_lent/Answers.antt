-- `follow_lent` meets its contract: each way out by its lemma. Assumes nothing.
use Rattle.std.proofs.Common.{sym, ◌∙◌}
use Rattle.follow.specs.Following.{way_outcome}
use Rattle.follow.proofs.Ways.{long, strange, whole}
use Rattle.follow.proofs.follow_lent.Goals as goal

pub returns-then-chunk-gt-CHUNK : goal.returns-then-chunk-gt-CHUNK
returns-then-chunk-gt-CHUNK c =
    let a = c.args in
    long a.targets.now a.finals a.live a.k a.set a.chunk.now c.if-chunk-gt-CHUNK.true

pub returns-then-has_stray : goal.returns-then-has_stray
returns-then-has_stray c =
    let a = c.args in
    strange a.targets.now a.finals a.live a.k a.set a.chunk.now c.if-chunk-gt-CHUNK.false
    (sym c.has_stray.ensures ∙ c.if-has_stray.true)

pub returns : goal.returns
returns c =
    let a = c.args in
    let way = c.walk-way in
    whole a.targets.now a.finals a.live a.k a.set a.chunk.now c.if-chunk-gt-CHUNK.false
    (sym c.has_stray.ensures ∙ c.if-has_stray.false)
    (way_outcome way.result) way.ensures _ _ _ c.next_symbols.ensures c.meets.ensures c.meets-2.ensures
