-- The law of the numbers that C is given for a rule reduced: what reducing answers can be read back
-- from them. proofs/ReadBack.antt proves it.
use Rattle.std.specs.Prelude.{◌≡◌}
use Rattle.flags.specs.Flags.{FlagLaw, BitLaw}
use Rattle.reducing.specs.Reducing.{Reducing}
use Rattle.c_reduce.specs.Numbers.{reduce_shown, reduce_read_back}

pub record Claims : Type 0 where
  -- accepted and refused are by the number, installs is 1 or 0, and the rule is the one answered
  pub flags : (m : Reducing) → FlagLaw m.number (reduce_shown m).accepted (reduce_shown m).refused
  pub installs : (m : Reducing) → BitLaw m.installs (reduce_shown m).installs
  pub rule : (m : Reducing) → (reduce_shown m).rule ≡ m.rule
  -- nothing of the answer is lost
  pub reduce_read_back_lem : (m : Reducing) → reduce_read_back (reduce_shown m) ≡ m
