-- What holds of rows and columns, and of a tray's calls on any state whatever.
--
--   RowsLaw w n b       which event of the bytes b stands where in the n rows
--   ColumnLaw c rows    which event stands where in column c
--   rows_below at p     how many rows the bands below band p have
--   BandsLaw at n       which row of which band stands where in all rows of n bands: the bands follow
--                       each other by their numbers
--   Unchanged           a refusal changes nothing
--   RulesAlone t row column   the tray has these rules and no board
--   InstallLaw t r      an accepted installation replaces its rule, keeps the other one and removes
--                       the board
--   VerdictLaw t        what the verdict says in the state t: with every band there, yes exactly
--                       when every row and every column has an accepting run
--   Claims              all of it; proofs/Claims.antt proves it
use Rattle.std.specs.Prelude.{◌≡◌, ◌↔◌, true, false, List, [], ℕ, ◌+◌, ◌*◌, ◌<◌, ◌≤◌, length, get_or}
use Rattle.std.proofs.Math.Option.{none, some}
use Rattle.base.specs.Totals.{total}
use Rattle.automaton.specs.declared.Rule.{Rule}
use Rattle.automaton.specs.Automaton.{Text}
use Rattle.automaton.specs.Rules.{WellFormed}
use Rattle.calls.specs.Calls.{install_number}
use Rattle.trays.specs.declared.Tray.{Tray}
use Rattle.trays.specs.Sizes.{most_rows}
use Rattle.trays.specs.Rows.{rows_of, rows_up_to, column_of, passes, AllAccepted}
use Rattle.trays.specs.Worked.{trays, Answered}
use Rattle.trays.specs.Replies.{waiting, says_yes, says_no, refused_with, refusal_of}
use Rattle.trays.specs.Calls.{Call, not_rows, foreign_to}
use Rattle.trays.specs.Boards.{width_of, empty_bands, rows_held}
use Rattle.trays.specs.mirror.Steps.{lacks_board, install_row_of, install_column_of, verdict_of, step_of}

-- n rows, each of w events: event c of row i is byte i × w + c
pub record RowsLaw (w n : ℕ) (b : List ℕ) : Type 0 where
  pub rows : length (rows_of w n b) ≡ n
  pub events : (i : ℕ) → i < n → length (get_or (rows_of w n b) i []) ≡ w
  pub event : (i c : ℕ) → i < n → c < w → get_or (get_or (rows_of w n b) i []) c 0 ≡ get_or b (i * w + c) 0

-- an event for each row, that at c
pub record ColumnLaw (c : ℕ) (rows : List (List ℕ)) : Type 0 where
  pub events : length (column_of c rows) ≡ length rows
  pub event : (i : ℕ) → i < length rows → get_or (column_of c rows) i 0 ≡ get_or (get_or rows i []) c 0

abbrev pub rows_below : (ℕ → List (List ℕ)) → ℕ → ℕ
rows_below at p = total (λ q. length (at q)) p

-- as many rows as the n bands have; row i of band p is behind all rows of the bands below p
pub record BandsLaw (at : ℕ → List (List ℕ)) (n : ℕ) : Type 0 where
  pub rows : length (rows_up_to at n) ≡ rows_below at n
  pub row : (p i : ℕ) → p < n → i < length (at p) → get_or (rows_up_to at n) (rows_below at p + i) [] ≡ get_or (at p) i []

abbrev pub Unchanged : Type 0
Unchanged = (t : Tray) (c : Call) (x : ℕ) → refusal_of (step_of t c).reply ≡ some x → (step_of t c).state ≡ t

-- the rules of the tray t, and that it has no board
abbrev pub RulesAlone : Tray → Rule → Rule → Type 0
RulesAlone t row column = (t.row ≡ row) × (t.column ≡ column) × (lacks_board t ≡ true)

pub record InstallLaw (t : Tray) (r : Rule) : Type 0 where
  pub row : install_number r ≡ none → RulesAlone (install_row_of t r).state r t.column
  pub column : install_number r ≡ none → RulesAlone (install_column_of t r).state t.row r

abbrev pub AllHeldAccepted : Tray → Type 0
AllHeldAccepted t = AllAccepted t.row t.column (width_of t.board) (rows_held t.board)

pub record VerdictLaw (t : Tray) : Type 0 where
  -- refused with 21 exactly where no board is there
  pub none_there : (verdict_of t ≡ refused_with 21) ↔ (lacks_board t ≡ true)
  -- waiting with the number of empty bands exactly when one is empty
  pub waits : (e : ℕ) → (verdict_of t ≡ waiting e) ↔ ((lacks_board t ≡ false) × (0 < e) × (e ≡ empty_bands t.board))
  -- else yes exactly when every row and every column is accepted, and no otherwise
  pub accepts : WellFormed t.row → WellFormed t.column → lacks_board t ≡ false → empty_bands t.board ≡ 0
      → (verdict_of t ≡ says_yes) ↔ AllHeldAccepted t
  pub rejects : WellFormed t.row → WellFormed t.column → lacks_board t ≡ false → empty_bands t.board ≡ 0
      → (verdict_of t ≡ says_no) ↔ (AllHeldAccepted t → ⊥)

pub record Claims : Type 0 where
  -- rows worked by hand are answered as their list says
  pub answered : Answered trays
  pub rows_law : (w n : ℕ) (b : List ℕ) → n * w ≤ length b → RowsLaw w n b
  pub column_law : (c : ℕ) (rows : List (List ℕ)) → ColumnLaw c rows
  pub bands_law : (at : ℕ → List (List ℕ)) (n : ℕ) → BandsLaw at n
  -- the test decides whether every row and every column is accepted
  pub passes_law : (row column : Rule) → WellFormed row → WellFormed column
      → (w : ℕ) (rows : List (List ℕ)) → (passes row column w rows ≡ true) ↔ AllAccepted row column w rows
  -- 39: bytes are let pass that are whole rows, at most 64
  pub whole_rows : (w : ℕ) (b : List ℕ) → 1 ≤ w
      → (not_rows w b ≡ false) ↔ ((n : ℕ) × (n ≤ most_rows) × (length b ≡ n * w))
  -- 13: bytes are let pass that are a text over the symbols of both rules
  pub both_texts : (kr kc : ℕ) (b : List ℕ) → (foreign_to kr kc b ≡ false) ↔ (Text kr b × Text kc b)
  pub unchanged : Unchanged
  pub install_law : (t : Tray) (r : Rule) → InstallLaw t r
  pub verdict_law : (t : Tray) → VerdictLaw t
