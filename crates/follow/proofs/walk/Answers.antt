-- `walk` meets its contract. The first loop's invariant: what is reached is the set after the bytes
-- passed, each set before has a live state, and the cache is right. The second's: what is reached is
-- the set after the bytes passed. Assumes nothing.
use Rattle.std.proofs.Common.{ℕ, [], ◌∷◌, get_or, sym, ap, ◌∙◌, arith, take_all}
use Rattle.follow.specs.Following.{set_after}
use Rattle.follow.proofs.Steps.{after_next, empty_rest, begun, next, at-end, lost_here}
use Rattle.follow.proofs.Caching.{cached_first}
use Rattle.follow.proofs.walk.Goals as goal

pub loop-from-init : goal.loop-from-init
loop-from-init c =
    let a = c.args in
    (begun a.targets.now a.live a.set a.chunk.now, cached_first a.targets.now, c.row_of.ensures)

pub returns-then-chunk-i : goal.returns-then-chunk-i
returns-then-chunk-i c =
    let x = c.loop-from in
    let a = c.args in
    at-end a.targets.now a.live a.set a.chunk.now x.before x.here.set x.i x.invariant.0 c.if-chunk-i.true
    (sym c.meets.ensures ∙ c.loop-from-test.true)

pub step-here-requires : goal.step-here-requires
step-here-requires c = let x = c.loop-from in (x.invariant.1, x.invariant.2)

pub loop-from-preserved : goal.loop-from-preserved
loop-from-preserved c =
    let x = c.loop-from in
    let a = c.args in
    let l = c.step-here.ensures in (
      next a.targets.now a.live a.set a.chunk.now x.before x.here.set x.i x.invariant.0 c.if-chunk-i.false
          (sym c.meets.ensures ∙ c.loop-from-test.true)
          c.step-here.result.set
          l.set,
      l.cached,
      l.row,
    )

pub overflow_cast-at : goal.overflow_cast-at
overflow_cast-at c =
    let x = c.loop-from in
    omega (arith, x.invariant.0.most, c.requires)

pub loop-j-init : goal.loop-j-init
loop-j-init c = let x = c.loop-from in (x.invariant.0.most, x.invariant.0.here, x.invariant.1, x.invariant.2)

pub returns-then-here-eq0 : goal.returns-then-here-eq0
returns-then-here-eq0 c =
    let x = c.loop-from in
    let l = c.loop-j in
    let a = c.args in
    lost_here a.targets.now a.live a.set a.chunk.now x.before x.here.set x.i x.invariant.0
    (sym c.meets.ensures ∙ c.loop-from-test.false)
    0
    (empty_rest a.targets.now a.set a.chunk.now l.j (sym l.invariant.1 ∙ c.if-here-eq0.true))

pub step-here-requires-in-loop-j : goal.step-here-requires-in-loop-j
step-here-requires-in-loop-j c = let x = c.loop-j in (x.invariant.2, x.invariant.3)

pub loop-j-preserved : goal.loop-j-preserved
loop-j-preserved c =
    let x = c.loop-j in
    let a = c.args in
    let l = c.step-here-in-loop-j.ensures in (
      omega arith,
      l.set
          ∙ ap (λ (y : ℕ). set_after a.targets.now y (get_or a.chunk.now x.j 0 ∷ [])) x.invariant.1
          ∙ sym (after_next a.targets.now a.set a.chunk.now x.j (omega arith)),
      l.cached,
      l.row,
    )

pub returns : goal.returns
returns c =
    let x = c.loop-from in
    let l = c.loop-j in
    let a = c.args in
    lost_here a.targets.now a.live a.set a.chunk.now x.before x.here.set x.i x.invariant.0
    (sym c.meets.ensures ∙ c.loop-from-test.false)
    l.here.set
    (l.invariant.1 ∙ ap (set_after a.targets.now a.set) (take_all l.j a.chunk.now (omega arith)))
