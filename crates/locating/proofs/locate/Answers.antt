-- `locate` meets its contract: each way out has its lemma. Assumes nothing.
use Rattle.locating.proofs.Spotting.{locate_21, locate_11, locate_12, located}
use Rattle.locating.proofs.locate.Goals as goal

pub returns-then-judge-eq0 : goal.returns-then-judge-eq0
returns-then-judge-eq0 c = locate_21 _ _ _ c.if-judge-eq0.true

pub returns-then-places_of-place : goal.returns-then-places_of-place
returns-then-places_of-place c =
    locate_11 _ _ _ c.if-judge-eq0.false _ c.places_of.ensures c.if-places_of-place.true

pub returns-then-chunk-gt-CHUNK : goal.returns-then-chunk-gt-CHUNK
returns-then-chunk-gt-CHUNK c =
    locate_12 _ _ _ c.if-judge-eq0.false _ c.places_of.ensures c.if-places_of-place.false c.if-chunk-gt-CHUNK.true

pub returns : goal.returns
returns c =
    located _ _ _ c.if-judge-eq0.false _ c.places_of.ensures c.if-places_of-place.false c.if-chunk-gt-CHUNK.false
    _ c.has_gap-gap.ensures _ c.join_places-from.ensures _ c.delegate_mask-starts.ensures
    _ c.live_mask-live.ensures _ c.locate_chunk.ensures
