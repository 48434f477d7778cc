-- What is left of the block leads from here to where all of it leads from the start.
use Rattle.std.proofs.Common.{◌-◌, ◌≡◌, take, drop}
use Rattle.linetexts.specs.Parts.{parts_of}
use Rattle.linetexts.specs.Feeding.{feed_parts}
use Rattle.linetexts.specs.Alone.{line_state}
use Rattle.formstream.specs.Texts.{form_lines}
use Rattle.formtable.proofs.run_block.Given as goal

abbrev pub invariant-loop-at : goal.invariant-loop-at
invariant-loop-at g l = feed_parts form_lines (line_state l.fn.held l.fn.line) (parts_of (take l.n l.block)) ≡ feed_parts form_lines (line_state l.held l.line) (parts_of (drop l.at (take l.n l.block)))

abbrev pub decreases-loop-at : goal.decreases-loop-at
decreases-loop-at g l = l.n - l.at
