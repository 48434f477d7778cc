-- The profiles worked by hand are what their list says: each is computed. Assumes nothing.
use mathlib.Core.Path.{refl}
use Rattle.base.specs.Conditions.{any_below}
use Rattle.base.specs.Lists.{list_from}
use Rattle.masks.specs.Masks.{union}
use Rattle.rulecheck.specs.Checking.{bad_targets}
use Rattle.numbering.specs.Numbering.{index_of, numbered, expand_from, close_from, keys_up_to}
use Rattle.mappings.specs.Packing.{pack}
use Rattle.profile.specs.Profiles.{build_number}
use Rattle.profile.specs.Worked.{profiles, Answered}

pub answered : Answered profiles
unfolding bad_targets any_below list_from union index_of numbered expand_from close_from keys_up_to pack build_number
answered = (refl, refl, (refl, refl, (refl, refl, (refl, refl, (refl, refl, tt)))))
