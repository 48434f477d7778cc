-- The lines of `formtable`: `SETS SYMBOLS FAILURE MASKS CELLS`, with exactly one space between the
-- fields. SETS and SYMBOLS are numbers below 2 ^ 64; the others are 16-bit numbers, at most 512, 512
-- and 8,192 of them, zeros after them. Any other line is malformed, an empty one too.
--
--   field_then o rest next  a field that says o, a space, and what next makes of what follows it;
--                           none where the field says nothing or no space follows it
--   line_in w            the form that the line w says, if it is no malformed one: its numbers of sets
--                        and symbols are those of the line, however great
--   longest_line         no line that says a form is longer (specs/Claims.antt)
--   Held                 what the code has of a line: the form; or that one of the two numbers is too
--                        great for a form as a value, 16 bits for sets and 8 for symbols; or that the
--                        line is malformed; with the form beside it
--   held_of o             that, where the line says the form o, if it says one; beside no form zeros
--   line_means r         what the code's result says
use Rattle.std.specs.Prelude as code
use Rattle.std.specs.Prelude.{Some, None, Result, Ok, Err, cond, ◌&&◌, List, ℕ, ◌+◌, ◌*◌, ltb}
use Rattle.std.proofs.Math.Option.{Option, none, some}
use Rattle.limits.specs.Limits.{most_sets, table_cells, most_digits}
use Rattle.lines.specs.Splitting.{up_to, past}
use Rattle.fields.specs.Numbers.{parse_number}
use Rattle.wordfields.specs.Words.{parse_words}
use Rattle.forms.specs.declared.Form.{Form}
use Rattle.formmaker.specs.Making.{no_form}
use Rattle.formline.specs.declared.TooGreat.{TooGreat}

abbrev pub field_then : {A : Type 0} → Option A → Option (List ℕ) → (A → List ℕ → Option Form) → Option Form
field_then none rest next = none
field_then (some a) none next = none
field_then (some a) (some w) next = next a w

-- the last field, then from each field on, from the last to the first; 32 is a space
abbrev pub cells_by : ℕ → ℕ → List ℕ → List ℕ → Option (List ℕ) → Option Form
cells_by n k failure kept none = none
cells_by n k failure kept (some cells) =
    some (record { sets = n; symbols = k; failure = failure; kept = kept; cells = cells })

abbrev pub cells_in : ℕ → ℕ → List ℕ → List ℕ → List ℕ → Option Form
cells_in n k failure kept w = cells_by n k failure kept (parse_words table_cells w)

unfoldable pub masks_in : ℕ → ℕ → List ℕ → List ℕ → Option Form
masks_in n k failure w = field_then (parse_words most_sets (up_to 32 w)) (past 32 w) (cells_in n k failure)

unfoldable pub failure_in : ℕ → ℕ → List ℕ → Option Form
failure_in n k w = field_then (parse_words most_sets (up_to 32 w)) (past 32 w) (masks_in n k)

unfoldable pub symbols_in : ℕ → List ℕ → Option Form
symbols_in n w = field_then (parse_number (up_to 32 w)) (past 32 w) (failure_in n)

unfoldable pub line_in : List ℕ → Option Form
line_in w = field_then (parse_number (up_to 32 w)) (past 32 w) symbols_in

-- two numbers, four hex digits for each 16-bit number, and four spaces
abbrev pub longest_line : ℕ
longest_line = most_digits + most_digits + 4 * most_sets + 4 * most_sets + 4 * table_cells + 4

-- ---- the code's result
pub data Held : Type 0 where
  says : Form → Held
  too_great : Form → Held
  malformed : Form → Held

abbrev pub held_of : Option Form → Held
held_of none = malformed no_form
held_of (some f) = cond (ltb f.sets 65536 && ltb f.symbols 256) (says f) (too_great no_form)

abbrev pub line_means : code.Option (Result Form TooGreat) → Held
line_means None = malformed no_form
line_means (Some (Err great)) = too_great no_form
line_means (Some (Ok form)) = says form
