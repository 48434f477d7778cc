-- `spent` meets its contract: one lemma for each way out. Assumes nothing.
use mathlib.Core.Path.{◌≡◌, sym}
use Prim.Native.Nat.{◌<◌}
use native.Mathlib.Omega.{arith}
use Rattle.walks.proofs.Steps.{count_alive, count_empty}
use Rattle.lanes.specs.mirror.Offsets.{hop_of, row_end}
use Rattle.lanes.proofs.Offsets.{hop_low, hop_stays}
use Rattle.blocks.proofs.spent.Goals as goal

pub returns-then-end-lt-EMPTY_ROW : goal.returns-then-end-lt-EMPTY_ROW
returns-then-end-lt-EMPTY_ROW c =
    let t = c.args.t.now in
    let w = c.args.part.now in
    let from = c.args.from in
    let alive : row_end t w from < 8192 = rw c.requires.2 at c.if-end-lt-EMPTY_ROW.true in
    sym (count_alive (hop_of t) 8192 (hop_low t c.requires.0) (hop_stays t c.requires.0) from w alive)

pub returns : goal.returns
returns c =
    let t = c.args.t.now in
    let w = c.args.part.now in
    let dead : c.args.from ≡ 8192 = omega (arith, c.requires.1, c.if-from-lt-EMPTY_ROW.false) in
    rw dead (sym (count_empty (hop_of t) 8192 (hop_low t c.requires.0) (hop_stays t c.requires.0) w))
