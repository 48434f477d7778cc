-- What is printed for rule A is computed. Assumes nothing.
use mathlib.Core.Path.{◌≡◌, refl}
use Rattle.base.specs.Conditions.{any_below}
use Rattle.base.specs.Lists.{list_from, joined}
use Rattle.base.specs.Totals.{total}
use Rattle.text.specs.Numerals.{decimal_below, hex}
use Rattle.masks.specs.Masks.{union, mask_of}
use Rattle.ruleformat.specs.Refusals.{too_short, too_long, bad_states, bad_symbols, no_room, bad_mask, bad_pairs, bad_section, bad_arcs}
use Rattle.ruleformat.specs.Reader.{targets_up_to}
use Rattle.ruleformat.specs.Worked.{file_A}
use Rattle.numbering.specs.Numbering.{index_of, numbered, expand_from, close_from, keys_up_to}
use Rattle.subsets.specs.Sets.{sets_of, too_many, next_set}
use Rattle.calls.specs.Calls.{load_number}
use Rattle.forms.specs.Form.{best_below, keeps}
use Rattle.formtext.specs.FormText.{text_for}
use Rattle.formtext.specs.Worked.{lines_A}

pub worked : text_for file_A ≡ lines_A
unfolding load_number too_short too_long bad_states bad_symbols no_room bad_mask bad_pairs bad_section bad_arcs any_below list_from joined total targets_up_to union mask_of index_of numbered expand_from close_from keys_up_to sets_of too_many next_set best_below keeps decimal_below hex
worked = refl
