-- The law of the numbers that C is given for bytes that were restored: what restoring answers can be
-- read back from them. proofs/ReadBack.antt proves it.
use Rattle.std.specs.Prelude.{◌≡◌}
use Rattle.flags.specs.Flags.{FlagLaw}
use Rattle.saved_judge.specs.Saved.{Restored}
use Rattle.c_saved.specs.Numbers.{restore_shown, restore_read_back}

pub record Claims : Type 0 where
  -- accepted and refused are by the number, and the judge is the one answered
  pub flags : (r : Restored) → FlagLaw r.number (restore_shown r).accepted (restore_shown r).refused
  pub judge : (r : Restored) → (restore_shown r).judge ≡ r.judge
  -- nothing of the answer is lost
  pub restore_read_back_lem : (r : Restored) → restore_read_back (restore_shown r) ≡ r
