-- What is printed for rule A is computed. Assumes nothing.
use mathlib.Core.Path.{◌≡◌, refl}
use Rattle.base.specs.Conditions.{any_below}
use Rattle.base.specs.Lists.{list_from, joined}
use Rattle.text.specs.Numerals.{decimal_below, hex}
use Rattle.masks.specs.Masks.{union}
use Rattle.rulecheck.specs.Checking.{bad_targets}
use Rattle.ruleformat.specs.Refusals.{too_short, too_long, bad_states, bad_symbols, no_room, bad_mask, bad_pairs, bad_section, bad_arcs, refusal}
use Rattle.ruleformat.specs.Reader.{targets_up_to}
use Rattle.ruleformat.specs.Worked.{file_A}
use Rattle.numbering.specs.Numbering.{index_of, numbered, expand_from, close_from, keys_up_to}
use Rattle.mappings.specs.Packing.{pack}
use Rattle.profile.specs.Profiles.{build_number}
use Rattle.profilefile.specs.Files.{profile_in}
use Rattle.profiletext.specs.ProfileText.{text_for}
use Rattle.profiletext.specs.Worked.{lines_A}

pub worked : text_for file_A ≡ lines_A
unfolding refusal too_short too_long bad_states bad_symbols no_room bad_mask bad_pairs bad_section bad_arcs any_below list_from joined targets_up_to bad_targets union index_of numbered expand_from close_from keys_up_to pack build_number profile_in decimal_below hex
worked = refl
