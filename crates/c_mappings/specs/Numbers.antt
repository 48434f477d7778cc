-- The numbers that C is given by the mapping machine. Every field is fixed.
--
--   number_in a       the number of a refusal in what building answers, or none
--   build_shown b    what building answers: the profile is all zeros where it is refused; how many
--                    mappings there are is a field of it
--   run_shown r      what a run answers: the mapping is all zeros where it is refused
--   mapping_shown f  a mapping
--   verdict_shown y  1 for yes, 0 for no
--   build_read_back .. verdict_read_back  what such numbers say, read back
use Rattle.std.specs.Prelude.{Bool, cond, List, ℕ, eqb}
use Rattle.std.proofs.Math.Option.{Option, none, some}
use Rattle.flags.specs.Flags.{flag_by, refused_by, bit_by, refusal_by}
use Rattle.mappings.specs.declared.Mapping.{Mapping}
use Rattle.profile.specs.Profiles.{Reply, accepted, refused, Building}
use Rattle.profile.specs.Runs.{Ran}
use Rattle.c_mappings.specs.declared.BuildNumbers.{BuildNumbers}
use Rattle.c_mappings.specs.declared.RunNumbers.{RunNumbers}

abbrev pub number_in : Reply → Option ℕ
number_in (accepted count) = none
number_in (refused number) = some number

abbrev pub build_shown : Building → BuildNumbers
build_shown b = record { accepted = flag_by (number_in b.reply); refused = refused_by (number_in b.reply); profile = b.profile }

abbrev pub mapping_shown : List ℕ → Mapping
mapping_shown f = record { masks = f }

abbrev pub run_shown : Ran → RunNumbers
run_shown r = record { accepted = flag_by r.refusal; refused = refused_by r.refusal; mapping = mapping_shown r.masks }

abbrev pub verdict_shown : Bool → ℕ
verdict_shown answer = bit_by answer

-- ---- read back: what the header says of the numbers
abbrev pub build_read_back : BuildNumbers → Building
build_read_back r = record {
  reply = cond (eqb r.accepted 1) (accepted r.profile.count) (refused r.refused);
  profile = r.profile;
}

abbrev pub run_read_back : RunNumbers → Ran
run_read_back r = record { refusal = refusal_by r.accepted r.refused; masks = r.mapping.masks }

abbrev pub verdict_read_back : ℕ → Bool
verdict_read_back number = eqb number 1
