-- The law of the numbers that C is given by following: what it answers can be read back from them.
-- proofs/ReadBack.antt proves it.
use Rattle.std.specs.Prelude.{◌≡◌, ◌↔◌, ◌⊎◌, ℕ}
use Rattle.std.proofs.Math.Option.{Option, none, some}
use Rattle.flags.specs.Flags.{FlagLaw, BitLaw}
use Rattle.follow.specs.Following.{Outcome, Prepared}
use Rattle.c_follow.specs.Numbers.{follow_shown, follow_read_back, prepare_shown, prepare_read_back}

-- `lost` is 1 or 0, 1 exactly with a place, which `at` has, and else `at` is 0
pub record LostLaw (place : Option ℕ) (lost at : ℕ) : Type 0 where
  pub one_or_zero : (lost ≡ 1) ⊎ (lost ≡ 0)
  pub never_exactly : (lost ≡ 0) ↔ (place ≡ none)
  pub no_place : lost ≡ 0 → at ≡ 0
  pub lost_exactly : (b : ℕ) → ((lost ≡ 1) × (at ≡ b)) ↔ (place ≡ some b)

pub record Claims : Type 0 where
  -- accepted and refused are by the number, ends and complete are 1 or 0, lost is with its place,
  -- and the set and the symbols are those that are answered
  pub flags : (o : Outcome) → FlagLaw o.refusal (follow_shown o).accepted (follow_shown o).refused
  pub ends : (o : Outcome) → BitLaw o.ends (follow_shown o).ends
  pub complete : (o : Outcome) → BitLaw o.complete (follow_shown o).complete
  pub lost : (o : Outcome) → LostLaw o.lost (follow_shown o).lost (follow_shown o).at
  pub values : (o : Outcome) → ((follow_shown o).set ≡ o.set) × ((follow_shown o).expected ≡ o.expected)
  -- the same of preparing, and the follower is the one that is answered
  pub prepared_flags : (p : Prepared) → FlagLaw p.refusal (prepare_shown p).accepted (prepare_shown p).refused
  pub follower : (p : Prepared) → (prepare_shown p).follower ≡ p.follower
  -- nothing is lost
  pub read_back : (o : Outcome) → follow_read_back (follow_shown o) ≡ o
  pub prepared_read_back : (p : Prepared) → prepare_read_back (prepare_shown p) ≡ p
