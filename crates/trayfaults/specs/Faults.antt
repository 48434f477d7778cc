-- Where a tray goes wrong, by a list of its calls alone. A list has the LAST call first. Nothing
-- here looks at a state. `Continued` is of crates/live.
--
--   RowAccepted h b i     the row rule accepts row i of the standing band b
--   RowFault h b i        it does not, and it accepts every standing row before it, by band and
--                         then by row; bands behind an empty one count
--   RowsRight h           it accepts every standing row
--   Before h m            m bands stand before the first empty one
--   column_text h m c k   column c of the first k rows of the first m bands
--   whole_column h m c    column c of all their rows
--   Hopeful h m c         some text continues it to one that the column rule accepts
--   LostWith h m c b i    column c is lost with row i of band b: its text before that row can be
--                         continued, and not with it. Where not even the empty text can, which is
--                         so of a rule that accepts nothing, it is row 0 of band 0, whatever stands
--   ColumnLost h m c b i  column c is the first that is lost over the first m bands, with that row
--   Short h c             every band stands, no column is lost, and column c is the first that is
--                         not accepted
--   Open h m              m bands stand before the first empty one, no column is lost over them,
--                         and where they are all, every column is accepted
--   Faulted h f           the finding f is the list's: 21 without a board, else the first row
--                         fault, else the first lost column, else the first short one, else open
--   IsFault f             a row, a column or a short one
--   AcceptsNothing h      the column rule accepts no text
use Rattle.std.specs.Prelude.{◌≡◌, ◌⊎◌, List, [], ℕ, suc, ◌+◌, ◌≤◌, ◌<◌, length, get_or, take}
use Rattle.std.proofs.Math.Option.{none}
use Rattle.automaton.specs.Automaton.{Accepts}
use Rattle.automaton.specs.Rules.{automaton_of}
use Rattle.live.specs.Continued.{Continued}
use Rattle.trays.specs.Rows.{column_of}
use Rattle.trays.specs.Calls.{Call}
use Rattle.trays.specs.Claims.{rows_below}
use Rattle.trayhistories.specs.History.{row_in, column_in, board_there, width_in, bands_in, standing, joined_rows, rows_at}
use Rattle.faults.specs.Faulting.{Finding, refused_as, row_at, column_at, short_at, open_with}

module _ (h : List Call) where
  -- ---- rows
  abbrev pub RowAccepted : ℕ → ℕ → Type 0
  RowAccepted b i = Accepts (automaton_of (row_in h)) (get_or (rows_at h b) i [])

  pub record RowFault (b i : ℕ) : Type 0 where
    pub band : b < bands_in h
    pub row : i < length (rows_at h b)
    pub rejected : RowAccepted b i → ⊥
    pub lower : (a j : ℕ) → a < b → j < length (rows_at h a) → RowAccepted a j
    pub earlier : (j : ℕ) → j < i → RowAccepted b j

  abbrev pub RowsRight : Type 0
  RowsRight = (b i : ℕ) → b < bands_in h → i < length (rows_at h b) → RowAccepted b i

  -- ---- the bands before the first empty one
  pub record Before (m : ℕ) : Type 0 where
    pub within : m ≤ bands_in h
    pub stand : (b : ℕ) → b < m → standing h b ≡ none → ⊥
    pub then_empty : m < bands_in h → standing h m ≡ none

  -- ---- columns
  abbrev pub column_text : ℕ → ℕ → ℕ → List ℕ
  column_text m c k = column_of c (take k (joined_rows (width_in h) (standing h) m))

  abbrev pub whole_column : ℕ → ℕ → List ℕ
  whole_column m c = column_of c (joined_rows (width_in h) (standing h) m)

  abbrev pub Hopeful : ℕ → ℕ → Type 0
  Hopeful m c = Continued (automaton_of (column_in h)) (whole_column m c)

  abbrev pub ColumnAccepted : ℕ → ℕ → Type 0
  ColumnAccepted m c = Accepts (automaton_of (column_in h)) (whole_column m c)

  -- row i of band b is row number rows_below .. b + i of all
  abbrev pub LostWith : ℕ → ℕ → ℕ → ℕ → Type 0
  LostWith m c b i =
      ((Continued (automaton_of (column_in h)) (column_text m c 0) → ⊥) × (b ≡ 0) × (i ≡ 0))
      ⊎ ((b < m) × (i < length (rows_at h b)) × Continued (automaton_of (column_in h)) (column_text m c (rows_below (rows_at h) b + i))
      × (Continued (automaton_of (column_in h)) (column_text m c (suc (rows_below (rows_at h) b + i))) → ⊥))

  pub record ColumnLost (m c b i : ℕ) : Type 0 where
    pub column : c < width_in h
    pub earlier : (d : ℕ) → d < c → Hopeful m d
    pub lost : LostWith m c b i

  pub record Short (c : ℕ) : Type 0 where
    pub full : Before (bands_in h)
    pub hopeful : (d : ℕ) → d < width_in h → Hopeful (bands_in h) d
    pub column : c < width_in h
    pub rejected : ColumnAccepted (bands_in h) c → ⊥
    pub earlier : (d : ℕ) → d < c → ColumnAccepted (bands_in h) d

  pub record Open (m : ℕ) : Type 0 where
    pub before : Before m
    pub hopeful : (d : ℕ) → d < width_in h → Hopeful m d
    pub when_full : m ≡ bands_in h → (d : ℕ) → d < width_in h → ColumnAccepted m d

  -- ---- what is found
  abbrev pub Faulted : Finding → Type 0
  Faulted (refused_as x) = (board_there h ≡ none) × (x ≡ 21)
  Faulted (row_at b i) = RowFault b i
  Faulted (column_at c b i) = (board_there h ≡ none → ⊥) × RowsRight × ((m : ℕ) × Before m × ColumnLost m c b i)
  Faulted (short_at c) = (board_there h ≡ none → ⊥) × RowsRight × Short c
  Faulted (open_with m) = (board_there h ≡ none → ⊥) × RowsRight × Open m

  abbrev pub AcceptsNothing : Type 0
  AcceptsNothing = (w : List ℕ) → Accepts (automaton_of (column_in h)) w → ⊥

abbrev pub IsFault : Finding → Type 0
IsFault (refused_as x) = ⊥
IsFault (row_at b i) = Unit {0}
IsFault (column_at c b i) = Unit {0}
IsFault (short_at c) = Unit {0}
IsFault (open_with m) = ⊥
