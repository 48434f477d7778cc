-- The calls of R-8 on rule A, line by line, by computation. Assumes nothing.
use mathlib.Core.Path.{◌≡◌, refl}
use mathlib.Core.List.{[]}
use mathlib.Core.Option.{some}
use Rattle.base.specs.Conditions.{any_below}
use Rattle.base.specs.Lists.{list_from, joined}
use Rattle.text.specs.Numerals.{decimal_below, hex}
use Rattle.masks.specs.Masks.{union}
use Rattle.fields.specs.Bytes.{hex_value, all_hex, pairs, parse_bytes}
use Rattle.lines.specs.Splitting.{begins, up_to, past, lines_from, lines_of}
use Rattle.linetexts.specs.Lists.{list_text}
use Rattle.ruleformat.specs.Refusals.{too_short, too_long, bad_states, bad_symbols, no_room, bad_mask, bad_pairs, bad_section, bad_arcs, refusal}
use Rattle.ruleformat.specs.Reader.{targets_up_to}
use Rattle.rulecheck.specs.Checking.{bad_targets}
use Rattle.numbering.specs.Numbering.{index_of, numbered, expand_from, close_from, keys_up_to}
use Rattle.mappings.specs.Packing.{pack}
use Rattle.marks.specs.Marks.{text_of}
use Rattle.chunks.specs.Chunks.{foreign}
use Rattle.chunks.specs.Taking.{chunk_number}
use Rattle.profile.specs.Profiles.{build_number}
use Rattle.profile.specs.Runs.{walk_to, run_of}
use Rattle.profilefile.specs.Files.{profile_in}
use Rattle.mapcalls.specs.Histories.{last_built, right_reply}
use Rattle.maplines.specs.Lines.{ask_in, line_in}
use Rattle.mapstream.specs.Worked.{calls_text, calls_answers}
use Rattle.mapstream.specs.Texts.{right_text}

pub worked_calls : right_text (some []) (lines_of calls_text) ≡ calls_answers
unfolding list_text lines_from line_in ask_in begins right_reply last_built parse_bytes all_hex hex_value pairs refusal too_short too_long bad_states bad_symbols no_room bad_mask bad_pairs bad_section bad_arcs any_below list_from targets_up_to bad_targets union index_of numbered expand_from close_from keys_up_to pack build_number walk_to run_of profile_in joined decimal_below hex up_to past text_of foreign chunk_number
worked_calls = refl
