-- What `ruleform` prints, as byte values: fields with one space between them, each line ended by one
-- line feed.
--
--   bits_in m         how many bits the mask m has
--   first_cell kept t  how many cells the sets below t keep: the place of set t's first kept cell among
--                     the packed ones
--   form_text f       `sets`, `symbols` and `kept` with their numbers; a line for each set: its
--                     number, its failure set, its mask in 4 hex digits and its kept cells, - for
--                     512
--   text_for f        the text for the rule file f: that of its form, or `refused` and the first
--                     number of 1 to 9 whose condition holds
--   most_bytes        so many bytes have room for the text of any file, which `print_form` promises
use Rattle.std.specs.Prelude.{List, [], ◌∷◌, ◌++◌, ℕ, ◌+◌, ◌*◌, min, get_or}
use Rattle.std.proofs.Math.Option.{Option, none, some}
use Rattle.limits.specs.Limits.{most_symbols, most_sets}
use Rattle.base.specs.Lists.{joined}
use Rattle.base.specs.Totals.{total}
use Rattle.text.specs.Numerals.{decimal, hex}
use Rattle.masks.specs.Masks.{has}
use Rattle.ruletext.specs.RuleText.{space, line_feed, field, cell_text, refused_text}
use Rattle.forms.specs.declared.Form.{Form}
use Rattle.forms.specs.Form.{how_many}
use Rattle.formfile.specs.Files.{form_for}

-- `sets`, ` symbols`, ` kept`
abbrev pub sets_word : List ℕ
sets_word = 115 ∷ 101 ∷ 116 ∷ 115 ∷ []

abbrev pub symbols_word : List ℕ
symbols_word = 32 ∷ 115 ∷ 121 ∷ 109 ∷ 98 ∷ 111 ∷ 108 ∷ 115 ∷ []

abbrev pub kept_word : List ℕ
kept_word = 32 ∷ 107 ∷ 101 ∷ 112 ∷ 116 ∷ []

abbrev pub head_line : ℕ → ℕ → ℕ → List ℕ
head_line sets symbols kept =
    (sets_word ++ field sets) ++ ((symbols_word ++ field symbols) ++ ((kept_word ++ field kept) ++ (line_feed ∷ [])))

abbrev pub bits_in : ℕ → ℕ
bits_in m = how_many (has m) most_symbols

abbrev pub first_cell : List ℕ → ℕ → ℕ
first_cell kept t = total (λ u. bits_in (get_or kept u 0)) t

-- n of the packed cells, from the place `first` on
abbrev pub cells_text : List ℕ → ℕ → ℕ → List ℕ
cells_text cells first n = joined (λ i. cell_text (get_or cells (first + i) 0)) n

abbrev pub line_text : ℕ → ℕ → ℕ → List ℕ → ℕ → ℕ → List ℕ
line_text t failure mask cells first n =
    decimal t ++ (field failure ++ (((space ∷ []) ++ hex 4 mask) ++ (cells_text cells first n ++ (line_feed ∷ []))))

abbrev pub set_line : List ℕ → List ℕ → List ℕ → ℕ → List ℕ
set_line failure kept cells t =
    line_text t (get_or failure t 0) (get_or kept t 0) cells (first_cell kept t) (bits_in (get_or kept t 0))

-- at most 512 sets are printed, which is all that the form of a table has
abbrev pub form_text : Form → List ℕ
form_text f =
    let n = min f.sets most_sets in
    head_line n f.symbols (first_cell f.kept n) ++ joined (set_line f.failure f.kept f.cells) n

abbrev pub text_by : Option ℕ → Form → List ℕ
text_by none f = form_text f
text_by (some number) f = refused_text number

abbrev pub text_for : List ℕ → List ℕ
text_for f = let m = form_for f in text_by m.number m.form

-- 36 for the first line, 79 for each of 512 sets
abbrev pub most_bytes : ℕ
most_bytes = 36 + 79 * most_sets
