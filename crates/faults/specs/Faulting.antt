-- Where a tray goes wrong, on any state whatever. On a state that no list of calls leaves, nobody
-- says what it should be; what stands here is what the code does. crates/trayfaults says what it is
-- after a list of calls.
--
--   Finding                  what is found
--     refused_as x           refused with the number x
--     row_at b i              row i of band b is not accepted
--     column_at c b i        column c is lost with row i of band b
--     short_at c              column c is not accepted, though it could go on
--     open_with m            none of these, and m bands stand before the first empty one
--   finding_means            what each case of the code's fault says
--   fault_means              what the code's answer says
--   found_means, Way, walk_means  the same of the code's answers on the way: a finding or nothing; a
--                            column is lost, or the set after its rows
--   way_by o m               the column is lost with the finding o, or the set after it is m
--   band_wrong r b rows      the first of the rows, which are those of band b, that r does not
--                            accept
--   rows_wrong r at n        the first of the rows `at 0`, .. `at (n − 1)` of n bands
--   band_stuck ts live c m b rows  the first of the rows with which no state of `live` is left in
--                            the set after column c, from m
--   column_stuck ts live c m at n  the same through n bands; row 0 of band 0 where none is in m
--   columns_stuck r at w n   the first of w columns that is lost
--   columns_short r at w n   the first of w columns that is not accepted
--   before_empty empty n     how many of n bands stand before the first empty one
--   fault_by ..              what is found: by whether no board is there, the two rules, the width,
--                            the rows of each band, which are empty, and how many there are
--   fault_of t               what is found in the state t
use Rattle.std.specs.Prelude as code
use Rattle.std.specs.Prelude.{Result, Ok, Err, Some, None, Bool, cond, List, [], ℕ, suc, eqb, length, get_or, take}
use Rattle.std.proofs.Math.Option.{Option, none, some}
use Rattle.base.specs.declared.Refusal.{Refusal}
use Rattle.base.specs.Answers.{refusal_number}
use Rattle.masks.specs.Masks.{shares}
use Rattle.automaton.specs.declared.Rule.{Rule}
use Rattle.automaton.specs.Successor.{after}
use Rattle.live.specs.Live.{live_of}
use Rattle.trays.specs.declared.Tray.{Tray}
use Rattle.trays.specs.Rows.{rows_up_to, column_of, accepted}
use Rattle.trays.specs.Boards.{width_of, bands_of, band_rows, is_empty}
use Rattle.trays.specs.mirror.Steps.{lacks_board}
use Rattle.faults.specs.declared.TrayFault.{TrayFault}
use Rattle.faults.specs.declared.TrayFault.TheVariants.{Row, Column, Short, Open}
use Rattle.faults.specs.First.{or_else, or_then, first_found}

pub data Finding : Type 0 where
  refused_as : ℕ → Finding
  row_at : ℕ → ℕ → Finding
  column_at : ℕ → ℕ → ℕ → Finding
  short_at : ℕ → Finding
  open_with : ℕ → Finding

-- ---- what the code's answers say
abbrev pub finding_means : TrayFault → Finding
finding_means (Row band row) = row_at band row
finding_means (Column column band row) = column_at column band row
finding_means (Short column) = short_at column
finding_means (Open bands) = open_with bands

abbrev pub fault_means : Result TrayFault Refusal → Finding
fault_means (Ok fault) = finding_means fault
fault_means (Err refusal) = refused_as (refusal_number refusal)

abbrev pub found_means : code.Option TrayFault → Option Finding
found_means None = none
found_means (Some fault) = some (finding_means fault)

pub data Way : Type 0 where
  stuck : Finding → Way
  reaches : ℕ → Way

abbrev pub walk_means : Result ℕ TrayFault → Way
walk_means (Ok set) = reaches set
walk_means (Err fault) = stuck (finding_means fault)

abbrev pub way_by : Option Finding → ℕ → Way
way_by none m = reaches m
way_by (some f) m = stuck f

-- ---- rows
abbrev pub row_wrong : Rule → ℕ → List (List ℕ) → ℕ → Option Finding
row_wrong r b rows i = cond (accepted r (get_or rows i [])) none (some (row_at b i))

abbrev pub band_wrong : Rule → ℕ → List (List ℕ) → Option Finding
band_wrong r b rows = first_found (row_wrong r b rows) (length rows)

abbrev pub rows_wrong : Rule → (ℕ → List (List ℕ)) → ℕ → Option Finding
rows_wrong r at n = first_found (λ b. band_wrong r b (at b)) n

-- ---- a column
module _ (ts : List ℕ) (live c m : ℕ) where
  abbrev pub row_stuck : ℕ → List (List ℕ) → ℕ → Option Finding
  row_stuck b rows i = cond (shares (after ts m (column_of c (take (suc i) rows))) live) none (some (column_at c b i))

  abbrev pub band_stuck : ℕ → List (List ℕ) → Option Finding
  band_stuck b rows = first_found (row_stuck b rows) (length rows)

module _ (ts : List ℕ) (live c m : ℕ) (at : ℕ → List (List ℕ)) where
  abbrev pub band_on : ℕ → Option Finding
  band_on b = band_stuck ts live c (after ts m (column_of c (rows_up_to at b))) b (at b)

  abbrev pub column_stuck : ℕ → Option Finding
  column_stuck n = cond (shares m live) (first_found band_on n) (some (column_at c 0 0))

-- ---- the columns
abbrev pub columns_stuck : Rule → (ℕ → List (List ℕ)) → ℕ → ℕ → Option Finding
columns_stuck r at w n = first_found (λ c. column_stuck r.targets (live_of r) c r.initials at n) w

abbrev pub column_short : Rule → (ℕ → List (List ℕ)) → ℕ → ℕ → Option Finding
column_short r at n c = cond (accepted r (column_of c (rows_up_to at n))) none (some (short_at c))

abbrev pub columns_short : Rule → (ℕ → List (List ℕ)) → ℕ → ℕ → Option Finding
columns_short r at w n = first_found (column_short r at n) w

-- ---- the whole
abbrev pub empty_at : (ℕ → Bool) → ℕ → Option ℕ
empty_at empty p = cond (empty p) (some p) none

abbrev pub before_empty : (ℕ → Bool) → ℕ → ℕ
before_empty empty n = or_then (first_found (empty_at empty) n) n

-- the columns of the first m of n bands
abbrev pub columns_by : Rule → (ℕ → List (List ℕ)) → ℕ → ℕ → Bool → Option Finding
columns_by r at w m full = or_else (columns_stuck r at w m) (cond full (columns_short r at w m) none)

abbrev pub beyond_rows : Rule → ℕ → (ℕ → List (List ℕ)) → (ℕ → Bool) → ℕ → Finding
beyond_rows r w at empty n =
    let m = before_empty empty n in
    or_then (columns_by r at w m (eqb m n)) (open_with m)

abbrev pub fault_by : Bool → Rule → Rule → ℕ → (ℕ → List (List ℕ)) → (ℕ → Bool) → ℕ → Finding
fault_by lacks row column w at empty n =
    cond lacks (refused_as 21) (or_then (rows_wrong row at n) (beyond_rows column w at empty n))

unfoldable pub fault_of : Tray → Finding
fault_of t =
    fault_by (lacks_board t) t.row t.column (width_of t.board) (band_rows t.board) (is_empty t.board) (bands_of t.board)
