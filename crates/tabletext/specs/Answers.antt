-- How a line of `formtable` is answered, as byte values.
--
--   bare_cell to       a cell of the table: the number of a set, or - for 512
--   cell_text c to     cell c of the line, with a space before it unless it is the first
--   cells_text next k n the first n cells of a table with k symbols, in order
--   table_line t       the cells of the table t, on one line
--   back_text b        what the way back from a form answers: the table, or `refused` and the number
--   answer_text o      the answer to a line that says the form o, if it says one
--   most_answer        the most bytes of an answer: four for each cell, and a line feed
use Rattle.std.specs.Prelude.{cond, List, [], ◌∷◌, ◌++◌, ℕ, ◌+◌, ◌*◌, ◌/◌, ◌%◌, eqb, ltb, get_or}
use Rattle.std.proofs.Math.Option.{Option, none, some}
use Rattle.limits.specs.Limits.{most_symbols, empty_set, table_cells}
use Rattle.base.specs.Lists.{joined}
use Rattle.text.specs.Numerals.{decimal}
use Rattle.answers.specs.Answers.{refused_text, malformed_text}
use Rattle.ruletext.specs.RuleText as rule
use Rattle.ruletext.specs.RuleText.{dash, line_feed}
use Rattle.forms.specs.declared.Form.{Form}
use Rattle.forms.specs.declared.Table.{Table}
use Rattle.forms.specs.Back.{Back, back_of}

abbrev pub bare_cell : ℕ → List ℕ
bare_cell to = cond (ltb to empty_set) (decimal to) (dash ∷ [])

abbrev pub cell_text : ℕ → ℕ → List ℕ
cell_text c to = cond (eqb c 0) (bare_cell to) (rule.cell_text to)

abbrev pub cells_text : List ℕ → ℕ → ℕ → List ℕ
cells_text next k n = joined (λ c. cell_text c (get_or next (c / k * most_symbols + c % k) 0)) n

abbrev pub table_line : Table → List ℕ
table_line t = cells_text t.next t.symbols (t.sets * t.symbols) ++ (line_feed ∷ [])

abbrev pub table_by : Option ℕ → Table → List ℕ
table_by none t = table_line t
table_by (some number) t = refused_text number

abbrev pub back_text : Back → List ℕ
back_text b = table_by b.number b.table

abbrev pub answer_text : Option Form → List ℕ
answer_text none = malformed_text
answer_text (some f) = back_text (back_of f)

abbrev pub most_answer : ℕ
most_answer = 4 * table_cells + 1
