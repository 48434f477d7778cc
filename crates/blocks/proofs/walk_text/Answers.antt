-- `walk_text` meets its contract. Assumes nothing.
use mathlib.Core.Path.{◌≡◌, sym, ap, ◌∙◌}
use mathlib.Core.List.{List}
use Prim.Native.Nat.{ℕ}
use borrow.Author.Rules.{rules}
use lib.ListN.{length}
use Rattle.lanes.proofs.Offsets.{row_table}
use Rattle.lanes.specs.mirror.Offsets.{offsets_of}
use Rattle.blocks.specs.mirror.Blocks.{walked_of}
use Rattle.blocks.proofs.Parts.{walked_empty}
use Rattle.blocks.proofs.walk_text.Goals as goal

pub returns-then-text-eq0 : goal.returns-then-text-eq0
returns-then-text-eq0 c =
    let size : length c.args.rows ≡ 32 = search rules in
    c.unwalked.ensures ∙ walked_empty (offsets_of c.args.next.now) c.args.text.now c.args.rows size c.if-text-eq0.true

pub slice_bounds-walk_blocks-end : goal.slice_bounds-walk_blocks-end
slice_bounds-walk_blocks-end c = sym (ap length c.fill_offsets.ensures ∙ (row_table c.args.next.now).size)

pub walk_blocks-requires : goal.walk_blocks-requires
walk_blocks-requires c =
    (rw c.fill_offsets.ensures (row_table c.args.next.now), c.requires.0, c.requires.1)

pub returns : goal.returns
returns c =
    c.walk_blocks.ensures ∙ ap (λ (t : List ℕ). walked_of t c.args.text.now c.args.rows) c.fill_offsets.ensures
