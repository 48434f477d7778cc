-- The text worked by hand is answered so, line by line, by computation. Assumes nothing.
use mathlib.Core.Path.{◌≡◌, refl}
use mathlib.Core.List.{[]}
use mathlib.Core.Option.{some}
use Rattle.base.specs.Conditions.{any_below}
use Rattle.base.specs.Lists.{list_from, joined}
use Rattle.text.specs.Numerals.{decimal_below, hex}
use Rattle.masks.specs.Masks.{union, mask_of}
use Rattle.masks.specs.Turns.{turns}
use Rattle.fields.specs.Bytes.{hex_value, all_hex, pairs, parse_bytes}
use Rattle.lines.specs.Splitting.{begins, lines_from, lines_of}
use Rattle.linetexts.specs.Lists.{list_text}
use Rattle.ruleformat.specs.Refusals.{too_short, too_long, bad_states, bad_symbols, no_room, bad_mask, bad_pairs, bad_section, bad_arcs, refusal}
use Rattle.ruleformat.specs.Reader.{targets_up_to}
use Rattle.rulecheck.specs.Checking.{bad_targets}
use Rattle.marks.specs.Marks.{text_of}
use Rattle.chunks.specs.Chunks.{foreign}
use Rattle.follow.specs.Following.{least_below, follow_number, follow_of}
use Rattle.followcalls.specs.Histories.{rule_in, chunks_in, right_reply}
use Rattle.followlines.specs.Lines.{line_in}
use Rattle.followstream.specs.Worked.{calls_text, calls_answers}
use Rattle.followstream.specs.Texts.{right_text}

pub worked : right_text (some []) (lines_of calls_text) ≡ calls_answers
unfolding list_text lines_from line_in begins right_reply rule_in chunks_in parse_bytes all_hex hex_value pairs refusal too_short too_long bad_states bad_symbols no_room bad_mask bad_pairs bad_section bad_arcs any_below list_from joined targets_up_to bad_targets union mask_of turns text_of foreign least_below follow_number follow_of decimal_below hex
worked = refl
