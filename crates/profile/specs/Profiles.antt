-- What building a profile answers (document 02, R-8): the simultaneous automaton of a rule, which
-- is 000's definition 5.
--
--   many_mappings r      the rule has more than 512 mappings
--   own_conditions r     33, more than eight states, and 34, more than 512 mappings
--   build_number r       the number with which building is refused, none where it is accepted:
--                        those of a checked rule (3, 4, 6, 8), then 33, then 34
--   Reply                the answer: accepted with the number of mappings, or refused with a number
--   profile_of r         the profile of the rule r, every field: the mappings in number order, and
--                        the table of what mapping i leads to by symbol s; zeros elsewhere
--   no_profile           zeros, which stand where there is no profile
--   Building, build_outcome  the answer and the profile; and what the code's result stands for
--   refused_build x      refused with the number x
--   build_of r           what building the rule r answers
use Rattle.std.specs.Prelude.{Result, Ok, Err, Bool, List, [], ◌∷◌, ◌++◌, ℕ, ltb, length, replicate}
use Rattle.std.proofs.Math.Option.{Option, none, some}
use Rattle.limits.specs.Limits.{most_sets, table_cells}
use Rattle.base.specs.declared.Refusal.{Refusal}
use Rattle.base.specs.Answers.{refusal_number}
use Rattle.base.specs.Conditions.{Condition, on, first_of}
use Rattle.automaton.specs.declared.Rule.{Rule}
use Rattle.rulecheck.specs.Checking.{rule_conditions}
use Rattle.numbering.specs.mirror.Arrays.{key_cells}
use Rattle.mappings.specs.Mappings.{mapped_states}
use Rattle.mappings.specs.Packing.{mapping_walk}
use Rattle.mappings.specs.Claims.{keys_of}
use Rattle.keys.specs.Tables.{cells_of}
use Rattle.profile.specs.declared.Profile.{Profile}

abbrev pub many_mappings : Rule → Bool
many_mappings r = ltb most_sets (length (keys_of r))

abbrev pub own_conditions : Rule → List Condition
own_conditions r = on 33 (ltb mapped_states r.n) ∷ on 34 (many_mappings r) ∷ []

unfoldable pub build_number : Rule → Option ℕ
build_number r = first_of (rule_conditions r ++ own_conditions r)

pub data Reply : Type 0 where
  accepted : ℕ → Reply
  refused : ℕ → Reply

abbrev pub profile_of : Rule → Profile
profile_of r = record {
  n = r.n;
  k = r.k;
  initials = r.initials;
  finals = r.finals;
  count = length (keys_of r);
  mappings = key_cells (keys_of r);
  next = cells_of (mapping_walk r.targets r.k) (keys_of r);
}

abbrev pub no_profile : Profile
no_profile = record {
  n = 0;
  k = 0;
  initials = 0;
  finals = 0;
  count = 0;
  mappings = replicate most_sets 0;
  next = replicate table_cells 0;
}

pub record Building : Type 0 where
  pub reply : Reply
  pub profile : Profile

abbrev pub refused_build : ℕ → Building
refused_build number = record { reply = refused number; profile = no_profile }

abbrev pub build_outcome : Result Profile Refusal → Building
build_outcome (Ok profile) = record { reply = accepted profile.count; profile = profile }
build_outcome (Err refusal) = refused_build (refusal_number refusal)

abbrev pub build_by : Option ℕ → Rule → Building
build_by none r = record { reply = accepted (length (keys_of r)); profile = profile_of r }
build_by (some number) r = refused_build number

abbrev pub build_of : Rule → Building
build_of r = build_by (build_number r) r
