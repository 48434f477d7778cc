-- The law of the numbers that C is given for a text to make: what making it answers can be read back
-- from them. proofs/ReadBack.antt proves it.
use Rattle.std.specs.Prelude.{◌≡◌, ℕ}
use Rattle.std.proofs.Math.Option.{Option}
use Rattle.flags.specs.Flags.{FlagLaw}
use Rattle.c_texts.specs.Numbers.{made_shown, made_read_back}

pub record Claims : Type 0 where
  pub flags : (o : Option ℕ) → FlagLaw o (made_shown o).accepted (made_shown o).refused
  pub made_read_back_lem : (o : Option ℕ) → made_read_back (made_shown o) ≡ o
