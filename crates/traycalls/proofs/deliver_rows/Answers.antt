-- `deliver_rows` meets its contract, from 13 on: each way out by its lemma. Assumes nothing.
use mathlib.Core.Path.{refl}
use Rattle.trays.proofs.Ways.{deliver_13, deliver_22, delivered}
use Rattle.std.proofs.lemmas.Bool.{not_from_false, not_from_true}
use Rattle.traycalls.proofs.deliver_rows.Goals as goal

pub returns-then-has_foreign : goal.returns-then-has_foreign
returns-then-has_foreign c =
    deliver_13 _ _ _ c.requires.0 _ refl c.requires.1 _ refl c.requires.2 _ c.has_foreign.ensures c.if-has_foreign.true
    _ c.refuse.ensures

pub returns-then-not-is_empty : goal.returns-then-not-is_empty
returns-then-not-is_empty c =
    deliver_22 _ _ _ c.requires.0 _ refl c.requires.1 _ refl c.requires.2
    _ c.has_foreign.ensures c.if-has_foreign.false
    _ c.is_empty.ensures (not_from_false _ c.if-not-is_empty.true)
    _ c.refuse-then-not-is_empty.ensures

pub returns : goal.returns
returns c =
    delivered _ _ _ c.requires.0 _ refl c.requires.1 _ refl c.requires.2
    _ c.has_foreign.ensures c.if-has_foreign.false
    _ c.is_empty.ensures (not_from_true _ c.if-not-is_empty.false)
    _ c.fill.ensures _ c.with_board.ensures
    _ c.accept.ensures
