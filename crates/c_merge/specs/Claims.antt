-- The law of the numbers that C is given for two rules made one: what merging answers can be read
-- back from them, and every number names a way. proofs/ReadBack.antt proves it.
use Rattle.std.specs.Prelude.{◌≡◌, ℕ, ◌≤◌}
use Rattle.flags.specs.Flags.{FlagLaw}
use Rattle.automaton.specs.declared.Rule.{Rule}
use Rattle.merging.specs.declared.Way.{Way}
use Rattle.merging.specs.declared.Way.TheVariants.{Both, Either, Interleaving}
use Rattle.merging.specs.Merging.{Merging, way_of, merge_of}
use Rattle.c_merge.specs.Numbers.{merge_shown, merge_read_back}

pub record Claims : Type 0 where
  -- accepted and refused are by the number, and the rule is the one that is answered
  pub flags : (m : Merging) → FlagLaw m.number (merge_shown m).accepted (merge_shown m).refused
  pub rule : (m : Merging) → (merge_shown m).rule ≡ m.rule
  -- nothing of the answer is lost
  pub merge_read_back_lem : (way : Way) (one two : Rule) → merge_read_back (merge_shown (merge_of way one two)) ≡ merge_of way one two
  -- 0 is both, 1 either, any other number interleaving
  pub way_0 : way_of 0 ≡ Both
  pub way_1 : way_of 1 ≡ Either
  pub way_other : (x : ℕ) → 2 ≤ x → way_of x ≡ Interleaving
