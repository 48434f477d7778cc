-- The line worked by hand says its form: it is computed. Assumes nothing.
use mathlib.Core.Path.{refl}
use Rattle.base.specs.Lists.{list_from}
use Rattle.lines.specs.Splitting.{up_to, past}
use Rattle.fields.specs.Numbers.{all_digits, value_from}
use Rattle.fields.specs.Bytes.{hex_value, all_hex, pairs, parse_bytes}
use Rattle.formline.specs.Lines.{masks_in, failure_in, symbols_in, line_in}
use Rattle.formline.specs.Worked.{WorkedLine}

pub worked_line : WorkedLine
unfolding list_from up_to past all_digits value_from hex_value all_hex pairs parse_bytes masks_in failure_in symbols_in line_in
worked_line = refl
