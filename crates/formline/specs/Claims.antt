-- What is claimed of the lines of `formtable`; proofs/Claims.antt proves it.
--
--   Fits f     the numbers of the form f can stand on a line: those of sets and symbols are of 64
--              bits, and 512 failure sets, 512 masks and 8,192 cells of 16
--   line_of f   the line of the form f: its numbers of sets and symbols, then all of its failure
--              sets, masks and cells, with a space between the fields
use Rattle.std.specs.Prelude.{◌≡◌, ◌⊎◌, List, ◌∷◌, ◌++◌, ℕ, ◌≤◌, ◌<◌, length}
use Rattle.std.proofs.Math.Option.{none, some}
use Rattle.limits.specs.Limits.{most_sets, table_cells, largest_number}
use Rattle.text.specs.Numerals.{decimal}
use Rattle.fields.specs.Claims.{field_of}
use Rattle.wordfields.specs.Claims.{AllWords, bytes_of}
use Rattle.forms.specs.declared.Form.{Form}
use Rattle.formmaker.specs.Making.{no_form}
use Rattle.formline.specs.Lines.{failure_in, line_in, longest_line, too_great, held_of}
use Rattle.formline.specs.Worked.{WorkedLine}

pub record Fits (f : Form) : Type 0 where
  pub sets : f.sets ≤ largest_number
  pub symbols : f.symbols ≤ largest_number
  pub failure : (length f.failure ≡ most_sets) × AllWords f.failure
  pub kept : (length f.kept ≡ most_sets) × AllWords f.kept
  pub cells : (length f.cells ≡ table_cells) × AllWords f.cells

abbrev pub words_field : List ℕ → List ℕ
words_field l = field_of (bytes_of l)

abbrev pub line_of : Form → List ℕ
line_of f =
    decimal f.sets ++ (32 ∷
    (decimal f.symbols ++ (32 ∷
    (words_field f.failure ++ (32 ∷
    (words_field f.kept ++ (32 ∷ words_field f.cells)))))))

pub record Claims : Type 0 where
  -- a line worked by hand says its form
  pub worked_line : WorkedLine
  -- every form that fits has a line, and the line says this form
  pub line_round_trip : (f : Form) → Fits f → line_in (line_of f) ≡ some f
  -- a number that is too great for a form as a value: zeros beside it
  pub too_great_lem : (f : Form) → (65535 < f.sets) ⊎ (255 < f.symbols) → held_of (some f) ≡ too_great no_form
  -- a line that says a form has at most so many bytes
  pub bounded : (w : List ℕ) (f : Form) → line_in w ≡ some f → length w ≤ longest_line
  -- what follows SETS and SYMBOLS is malformed beside all numbers, or beside none
  pub any_numbers : (n k m l : ℕ) (w : List ℕ) → failure_in n k w ≡ none → failure_in m l w ≡ none
