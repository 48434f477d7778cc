-- The profile of the rule in a file: the file is read, and its rule built.
--
--   profile_in f  what that answers: refused with 1 to 8 by reading, else what building answers
use Rattle.std.specs.Prelude.{List, ℕ}
use Rattle.std.proofs.Math.Option.{Option, none, some}
use Rattle.ruleformat.specs.Refusals.{refusal}
use Rattle.ruleformat.specs.Reader.{rule_of}
use Rattle.profile.specs.Profiles.{Building, refused_build, build_of}

abbrev pub profile_by : Option ℕ → List ℕ → Building
profile_by none f = build_of (rule_of f)
profile_by (some number) f = refused_build number

unfoldable pub profile_in : List ℕ → Building
profile_in f = profile_by (refusal f) f
