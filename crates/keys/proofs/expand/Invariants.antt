-- `expand` meets its contract. The invariant of the outer loop: the arrays hold the first count
-- keys and the cells of the keys below number i, and expanding these keys from i on comes to the
-- list that the contract names. Within key i the same of the symbols below the present one. The
-- fuel of the definition is 512 at the first key and one less with each key, so it lasts while
-- there are at most 512 keys. Where the 513th turns up, that list goes on from the keys so far,
-- since the procedure only appends. Assumes nothing.
use mathlib.Core.Path.{◌≡◌}
use Prim.Native.Nat.{◌+◌, ◌-◌, ◌*◌, ◌≤◌, ◌<◌, min}
use lib.ListN.{take}
use Rattle.numbering.specs.Numbering.{close_from}
use Rattle.numbering.specs.mirror.Arrays.{ArraysHold}
use Rattle.numbering.proofs.Turns.{expanded}
use Rattle.keys.specs.Kinds.{free_by, walk_in}
use Rattle.keys.proofs.expand.Given as goal

abbrev pub invariant-loop-symbol : goal.invariant-loop-symbol
invariant-loop-symbol l =
    let w = walk_in l.kind l.omit l.targets l.others l.k in
    (l.count ≤ 512) × (l.i < l.count) × (l.symbol ≤ l.k) × ArraysHold w (free_by l.omit) (take l.count l.keys) (l.i * 16 + min l.symbol 16) l.keys l.next
    × (expanded w l.i 0 (take l.initial.count l.initial.keys) ≡ expanded w l.i l.symbol (take l.count l.keys))

abbrev pub invariant-expand : goal.invariant-expand
invariant-expand l =
    let w = walk_in l.kind l.omit l.targets l.others l.k in
    (l.count ≤ 512) × (l.initial.i ≤ l.i) × (l.i ≤ l.count) × ArraysHold w (free_by l.omit) (take l.count l.keys) (l.i * 16) l.keys l.next
    × (close_from w 512 l.initial.i (take l.initial.count l.initial.keys) ≡ close_from w (512 + l.initial.i - l.i) l.i (take l.count l.keys))

abbrev pub decreases-expand : goal.decreases-expand
decreases-expand l = 512 - l.i
