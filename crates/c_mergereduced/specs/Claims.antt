-- What merging reduced rules answers can be read back from the numbers that C is given;
-- proofs/ReadBack.antt proves it.
use Rattle.std.specs.Prelude.{◌≡◌}
use Rattle.automaton.specs.declared.Rule.{Rule}
use Rattle.merging.specs.declared.Way.{Way}
use Rattle.mergereduce.specs.MergeReduced.{merge_reduced_of}
use Rattle.c_merge.specs.Numbers.{merge_shown, merge_read_back}

pub record Claims : Type 0 where
  -- nothing of the answer is lost
  pub merge_reduced_read_back : (way : Way) (one two : Rule)
      → merge_read_back (merge_shown (merge_reduced_of way one two)) ≡ merge_reduced_of way one two
