-- Rows and columns of events (document 02, R-13): "a row is judged by one rule and each column, from
-- the first tick to the last, by another". Rows are a list, the first tick's first, and a row is the
-- list of its events. Nothing here looks at a state.
--
--   rows_of w n b      n rows of w events each, as they stand one after the other in the bytes b
--   rows_in w b       the rows of w events that the bytes b are, which are whole rows
--   rows_up_to at n   the rows `at 0`, `at 1`, .. `at (n − 1)`, one after the other: those of bands,
--                     by the numbers of the bands
--   column_of c rows  column c: the event at c of each row, from the first tick to the last; the
--                     empty text where there are no rows
--   accepted r w      the test that the rule r accepts the text w
--   rows_pass, columns_pass  the tests that each row, each of the first columns is accepted
--   passes row column w rows   the test for yes
--   AllAccepted       the same in the paper's words, by accepting runs of document 000's automata:
--                     every row and every column is accepted. `passes_law` of specs/Claims.antt
--                     says that the test decides it
use Rattle.std.specs.Prelude.{Bool, true, ◌&&◌, List, [], ◌∷◌, ◌++◌, ℕ, zero, suc, ◌/◌, ◌<◌, length, get_or, take, drop}
use Rattle.masks.specs.Masks.{shares}
use Rattle.automaton.specs.declared.Rule.{Rule}
use Rattle.automaton.specs.Automaton.{Accepts}
use Rattle.automaton.specs.Rules.{automaton_of}
use Rattle.automaton.specs.Successor.{after}

-- ---- rows and columns
unfoldable pub rows_of : ℕ → ℕ → List ℕ → List (List ℕ)
rows_of w zero b = []
rows_of w (suc n) b = take w b ∷ rows_of w n (drop w b)

abbrev pub rows_in : ℕ → List ℕ → List (List ℕ)
rows_in w b = rows_of w (length b / w) b

unfoldable pub rows_up_to : (ℕ → List (List ℕ)) → ℕ → List (List ℕ)
rows_up_to at zero = []
rows_up_to at (suc i) = rows_up_to at i ++ at i

unfoldable pub column_of : ℕ → List (List ℕ) → List ℕ
column_of c [] = []
column_of c (row ∷ rows) = get_or row c 0 ∷ column_of c rows

-- ---- accepted: a final state is in the successor of the set of initial states by the text
abbrev pub accepted : Rule → List ℕ → Bool
accepted r w = shares (after r.targets r.initials w) r.finals

unfoldable pub rows_pass : Rule → List (List ℕ) → Bool
rows_pass r [] = true
rows_pass r (row ∷ rows) = accepted r row && rows_pass r rows

-- columns 0 to n − 1
unfoldable pub columns_pass : Rule → List (List ℕ) → ℕ → Bool
columns_pass r rows zero = true
columns_pass r rows (suc c) = columns_pass r rows c && accepted r (column_of c rows)

abbrev pub passes : Rule → Rule → ℕ → List (List ℕ) → Bool
passes row column w rows = rows_pass row rows && columns_pass column rows w

-- rows of w events: each is accepted by the row rule, and each of the w columns by the column rule
pub record AllAccepted (row column : Rule) (w : ℕ) (rows : List (List ℕ)) : Type 0 where
  pub every_row : (i : ℕ) → i < length rows → Accepts (automaton_of row) (get_or rows i [])
  pub every_column : (c : ℕ) → c < w → Accepts (automaton_of column) (column_of c rows)
