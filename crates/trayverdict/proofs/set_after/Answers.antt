-- `set_after` meets its contract: what is reached after the rest of the text is what the whole text
-- reaches. Assumes nothing.
use mathlib.Core.Path.{refl, sym, ap, ◌∙◌}
use Prim.Native.Nat.{ℕ, ◌+◌}
use native.Mathlib.Omega.{arith}
use lib.ListN.{drop}
use Rattle.automaton.specs.Successor.{after}
use Rattle.trayverdict.proofs.Walks.{text-step, text_done}
use Rattle.trayverdict.proofs.set_after.Goals as goal

pub loop-byte-init : goal.loop-byte-init
loop-byte-init c = refl

pub loop-byte-preserved : goal.loop-byte-preserved
loop-byte-preserved c =
    let x = c.loop-byte in
    let a = c.args in
    x.invariant ∙ text-step a.targets.now x.reached a.text.now x.byte-index (omega arith)
    ∙ ap (λ (m : ℕ). after a.targets.now m (drop (x.byte-index + 1) a.text.now)) (sym c.successor-reached.ensures)

pub returns : goal.returns
returns c =
    let x = c.loop-byte in
    let a = c.args in
    sym (x.invariant ∙ text_done a.targets.now x.reached a.text.now x.byte-index (omega arith))
