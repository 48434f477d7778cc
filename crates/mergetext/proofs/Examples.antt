-- The lines worked by hand mean their words, and the answers are written so: each is computed. Assumes
-- nothing.
use mathlib.Core.Path.{refl}
use Rattle.text.specs.Numerals.{decimal_below, hex}
use Rattle.lines.specs.Splitting.{begins, up_to, past}
use Rattle.fields.specs.Bytes.{hex_value, all_hex, pairs, parse_bytes}
use Rattle.fields.specs.Claims.{digits_of}
use Rattle.mergetext.specs.Lines.{line_in}
use Rattle.mergetext.specs.Worked.{WorkedLines, Written}

pub worked_lines : WorkedLines
unfolding line_in begins up_to past hex_value all_hex pairs parse_bytes
worked_lines = (refl, refl, refl, refl, refl)

pub answers_written : Written
unfolding decimal_below hex digits_of
answers_written = record { first = refl; second = refl; alike = refl; digits = refl; number = refl; no_meaning = refl }
