-- The text worked by hand is answered as it stands there: it is computed. Assumes nothing.
use mathlib.Core.Path.{◌≡◌, refl}
use Rattle.base.specs.Lists.{list_from, joined}
use Rattle.text.specs.Numerals.{decimal_below, hex}
use Rattle.fields.specs.Claims.{digits_of}
use Rattle.lines.specs.Splitting.{lines_from, lines_of}
use Rattle.patternscan.specs.Signs.{sign_of}
use Rattle.linetexts.specs.Alone.{answers_to}
use Rattle.patterntext.specs.Answers.{answer_text}
use Rattle.patterntext.specs.Worked.{two_lines, two_answers}

pub worked : answers_to answer_text (lines_of two_lines) ≡ two_answers
unfolding list_from joined sign_of decimal_below hex digits_of lines_from answers_to
worked = refl
