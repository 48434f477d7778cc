-- `fill` meets its contract. The loop's invariant: what is filled in, and then the text made from the
-- value reached, is the whole text. Assumes nothing.
use mathlib.Core.Path.{refl}
use native.Mathlib.Omega.{arith}
use lib.ListN.{length}
use Rattle.madetexts.specs.Values.{made_text}
use Rattle.madetexts.proofs.Filling.{filled_none, filled_more, filled_all}
use Rattle.madetexts.proofs.fill.Goals as goal

pub loop-byte-init : goal.loop-byte-init
loop-byte-init c = (omega arith, refl, filled_none c.args.k c.args.seed c.args.text.now)

pub loop-byte-preserved : goal.loop-byte-preserved
loop-byte-preserved c =
    let l = c.loop-byte in
    let a = c.args in
    filled_more (made_text a.k a.seed (length a.text.now)) a.k l.x (length a.text.now) l.byte-index l.text
    c.next_value-next.result c.next_value-next.ensures (omega arith) l.invariant.1 l.invariant.2

pub returns : goal.returns
returns c =
    let l = c.loop-byte in
    let a = c.args in
    filled_all (made_text a.k a.seed (length a.text.now)) a.k l.x (length a.text.now) l.byte-index l.text
    (omega arith) l.invariant.1 l.invariant.2
