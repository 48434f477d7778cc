-- The line of a form says this form. Assumes nothing.
use mathlib.Core.Path.{◌≡◌, refl, sym, ap, ◌∙◌}
use mathlib.Core.List.{List, ◌∷◌, ◌++◌}
use mathlib.Core.Option.{Option, some}
use Prim.Native.Nat.{ℕ}
use native.Mathlib.Omega.{arith}
use lib.ListN.{length, get_or}
use Rattle.base.proofs.Lists.{is_list_from}
use Rattle.limits.specs.Limits.{most_sets, table_cells}
use Rattle.text.specs.Numerals.{decimal}
use Rattle.lines.specs.Splitting.{up_to, past}
use Rattle.lines.proofs.Over.{Over, over_up, over_past}
use Rattle.fields.specs.Numbers.{parse_number}
use Rattle.fields.proofs.Claims as fields
use Rattle.hexfields.proofs.Digits.{number_over, field_over}
use Rattle.wordfields.specs.Words.{parse_words}
use Rattle.wordfields.specs.Claims.{AllWords, bytes_of}
use Rattle.wordfields.proofs.RoundTrip as words
use Rattle.forms.specs.declared.Form.{Form}
use Rattle.formline.specs.Lines.{field_then, cells_by, cells_in, masks_in, failure_in, symbols_in, line_in}
use Rattle.formline.specs.Claims.{Fits, words_field, line_of}

-- a field, a space and what follows it
field_on : {A : Type 0} (parse : List ℕ → Option A) (next : A → List ℕ → Option Form) (field rest : List ℕ) (a : A)
    → Over 32 field → parse field ≡ some a
    → field_then (parse (up_to 32 (field ++ (32 ∷ rest)))) (past 32 (field ++ (32 ∷ rest))) next ≡ next a rest
field_on parse next field rest a over is = rw (over_up 32 rest field over, over_past 32 rest field over, is)

all_words : (most : ℕ) (l : List ℕ) → length l ≡ most → AllWords l → parse_words most (words_field l) ≡ some l
all_words most l long a =
    (words.claims).words_round_trip most l (omega arith) a
    ∙ ap some (sym (is_list_from l most (λ i. get_or l i 0) long (λ c b. refl)))

module _ (f : Form) (fits : Fits f) where
  rest_3 : List ℕ
  rest_3 = words_field f.kept ++ (32 ∷ words_field f.cells)

  rest_2 : List ℕ
  rest_2 = words_field f.failure ++ (32 ∷ rest_3)

  rest_1 : List ℕ
  rest_1 = decimal f.symbols ++ (32 ∷ rest_2)

  cells_said : cells_in f.sets f.symbols f.failure f.kept (words_field f.cells) ≡ some f
  cells_said = ap (cells_by f.sets f.symbols f.failure f.kept) (all_words table_cells f.cells fits.cells.0 fits.cells.1)

  masks_said : masks_in f.sets f.symbols f.failure rest_3 ≡ some f
  unfolding masks_in rest_3
  masks_said =
      field_on (parse_words most_sets) (cells_in f.sets f.symbols f.failure) (words_field f.kept) (words_field f.cells) f.kept
      (field_over (bytes_of f.kept)) (all_words most_sets f.kept fits.kept.0 fits.kept.1)
      ∙ cells_said

  failure_said : failure_in f.sets f.symbols rest_2 ≡ some f
  unfolding failure_in rest_2
  failure_said =
      field_on (parse_words most_sets) (masks_in f.sets f.symbols) (words_field f.failure) rest_3 f.failure
      (field_over (bytes_of f.failure)) (all_words most_sets f.failure fits.failure.0 fits.failure.1)
      ∙ masks_said

  symbols_said : symbols_in f.sets rest_1 ≡ some f
  unfolding symbols_in rest_1
  symbols_said =
      field_on parse_number (failure_in f.sets) (decimal f.symbols) rest_2 f.symbols (number_over f.symbols)
      ((fields.claims).number_round_trip f.symbols fits.symbols)
      ∙ failure_said

  pub line_round_trip : line_in (line_of f) ≡ some f
  unfolding line_in rest_1 rest_2 rest_3
  line_round_trip =
      field_on parse_number symbols_in (decimal f.sets) rest_1 f.sets (number_over f.sets)
      ((fields.claims).number_round_trip f.sets fits.sets)
      ∙ symbols_said
