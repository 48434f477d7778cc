-- What is left of the block leads from here to where all of it leads from the start.
use Rattle.std.proofs.Common.{◌-◌, ◌≡◌, take, drop}
use Rattle.linetexts.specs.Parts.{parts_of}
use Rattle.linetexts.specs.Feeding.{feed_parts}
use Rattle.linetexts.specs.Lists.{text_state}
use Rattle.mapstream.specs.Texts.{map_lines}
use Rattle.mapjudge.proofs.run_block.Given as goal

abbrev pub invariant-loop-at : goal.invariant-loop-at
invariant-loop-at g l = feed_parts map_lines (text_state l.fn.state l.fn.pending l.fn.line) (parts_of (take l.n l.block)) ≡ feed_parts map_lines (text_state l.state l.pending l.line) (parts_of (drop l.at (take l.n l.block)))

abbrev pub decreases-loop-at : goal.decreases-loop-at
decreases-loop-at g l = l.n - l.at
