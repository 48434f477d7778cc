-- The law of the numbers that C is given by the mapping machine: what it answers can be read back
-- from them. proofs/ReadBack.antt proves it.
use Rattle.std.specs.Prelude.{◌≡◌, Bool, List, ℕ}
use Rattle.flags.specs.Flags.{FlagLaw, BitLaw}
use Rattle.automaton.specs.declared.Rule.{Rule}
use Rattle.profile.specs.declared.Profile.{Profile}
use Rattle.profile.specs.Profiles.{Building, build_of}
use Rattle.profile.specs.Runs.{Ran, run_of}
use Rattle.c_mappings.specs.Numbers.{number_in, build_shown, run_shown, mapping_shown, verdict_shown, build_read_back, run_read_back, verdict_read_back}

pub record Claims : Type 0 where
  -- accepted and refused are by the number, the profile or mapping is the one that is answered, and a
  -- yes is 1
  pub build_flags : (b : Building) → FlagLaw (number_in b.reply) (build_shown b).accepted (build_shown b).refused
  pub profile : (b : Building) → (build_shown b).profile ≡ b.profile
  pub run_flags : (r : Ran) → FlagLaw r.refusal (run_shown r).accepted (run_shown r).refused
  pub mapping : (r : Ran) → (run_shown r).mapping.masks ≡ r.masks
  pub composed : (f : List ℕ) → (mapping_shown f).masks ≡ f
  pub verdict : (answer : Bool) → BitLaw answer (verdict_shown answer)
  pub build_read_back_lem : (r : Rule) → build_read_back (build_shown (build_of r)) ≡ build_of r
  pub run_read_back_lem : (p : Profile) (w : List ℕ) → run_read_back (run_shown (run_of p w)) ≡ run_of p w
  pub verdict_read_back_lem : (answer : Bool) → verdict_read_back (verdict_shown answer) ≡ answer
