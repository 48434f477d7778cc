-- What is found in the state after a list of calls is what is found by the list: the finding hangs
-- on the rows of the bands that are there, and on no other number of the state. Assumes nothing.
--
--   rows_same, beyond_same   the same rows and the same empty bands
--   fault_in                 the finding by the list
--   fault_after              the finding of the state is that
use mathlib.Core.Path.{◌≡◌, refl, sym, ap, ap₂, ◌∙◌}
use mathlib.Core.Bool.{Bool, true, false, cond}
use mathlib.Core.List.{List}
use mathlib.Core.Option.{Option, none, some}
use Prim.Native.Nat.{ℕ, ◌≤◌, ◌<◌, min, max}
use native.Mathlib.Omega.{arith}
use lib.Dec.{eqb}
use Rattle.base.specs.Options.{is_none}
use Rattle.base.proofs.Tests.{by_test, not_both}
use Rattle.automaton.specs.declared.Rule.{Rule}
use Rattle.automaton.specs.Successor.{after}
use Rattle.live.specs.Live.{live_of}
use Rattle.trays.specs.declared.Tray.{Tray}
use Rattle.trays.specs.Rows.{rows_up_to, column_of, accepted}
use Rattle.trays.specs.Calls.{Call}
use Rattle.trays.specs.Boards.{width_of, bands_of, band_rows, is_empty}
use Rattle.trays.specs.mirror.Steps.{lacks_board}
use Rattle.trays.proofs.Rows.{up_to_same}
use Rattle.trayhistories.specs.History.{row_in, column_in, Size, board_there, width_in, bands_in, rows_at}
use Rattle.trayhistories.specs.Claims.{tray_after}
use Rattle.trayhistories.proofs.EveryList.{every_list}
use Rattle.faults.specs.First.{or_else, or_then}
use Rattle.faults.specs.Faulting.{Finding, short_at, open_with, band_wrong, rows_wrong, band_stuck, band_on, column_stuck, column_short, empty_at, before_empty, columns_by, beyond_rows, fault_by, fault_of}
use Rattle.faults.proofs.First.{first-same}
use Rattle.trayfaults.proofs.Searching.{empty_in, before_is}

module _ (at au : ℕ → List (List ℕ)) (empty none_there : ℕ → Bool) (n : ℕ)
    (rows : (p : ℕ) → p < n → at p ≡ au p) (bands : (p : ℕ) → p < n → empty p ≡ none_there p) where
  rows_same : (r : Rule) → rows_wrong r at n ≡ rows_wrong r au n
  rows_same r = first-same (λ b. band_wrong r b (at b)) (λ b. band_wrong r b (au b)) n (λ b l. ap (band_wrong r b) (rows b l))

  before_same : before_empty empty n ≡ before_empty none_there n
  before_same =
      ap (λ (o : Option ℕ). or_then o n)
      (first-same (empty_at empty) (empty_at none_there) n (λ p l. ap (λ (t : Bool). cond t (some p) none) (bands p l)))

  -- the columns of the first m bands
  module _ (r : Rule) (m : ℕ) (l : m ≤ n) where
    up_to : (b : ℕ) → b ≤ m → rows_up_to at b ≡ rows_up_to au b
    up_to b k = up_to_same at au b (λ p j. rows p (omega arith))

    stuck_same : (c : ℕ) → column_stuck r.targets (live_of r) c r.initials at m ≡ column_stuck r.targets (live_of r) c r.initials au m
    stuck_same c =
        rw (first-same (band_on r.targets (live_of r) c r.initials at) (band_on r.targets (live_of r) c r.initials au) m
        (λ b k.
        ap₂ (λ (x y : List (List ℕ)). band_stuck r.targets (live_of r) c (after r.targets r.initials (column_of c x)) b y) (up_to b (omega arith)) (rows b (omega arith))))

    columns_same : (w : ℕ) (full : Bool) → columns_by r at w m full ≡ columns_by r au w m full
    columns_same w full =
        ap₂ (λ (o u : Option Finding). or_else o (cond full u none))
        (first-same (λ c. column_stuck r.targets (live_of r) c r.initials at m) (λ c. column_stuck r.targets (live_of r) c r.initials au m) w (λ c k. stuck_same c))
        (first-same (column_short r at m) (column_short r au m) w
        (λ c k. ap (λ (x : List (List ℕ)). cond (accepted r (column_of c x)) none (some (short_at c))) (up_to m (omega arith))))

  beyond_same : (r : Rule) (w : ℕ) → before_empty none_there n ≤ n → beyond_rows r w at empty n ≡ beyond_rows r w au none_there n
  beyond_same r w l =
      ap (λ (m : ℕ). or_then (columns_by r at w m (eqb m n)) (open_with m)) before_same
      ∙ ap (λ (o : Option Finding). or_then o (open_with (before_empty none_there n)))
      (columns_same r (before_empty none_there n) l w (eqb (before_empty none_there n) n))

-- ---- after a list of calls
same_numbers : {lacks l : Bool} {row a column b : Rule} {w v n m : ℕ} (at : ℕ → List (List ℕ)) (empty : ℕ → Bool)
    → lacks ≡ l → row ≡ a → column ≡ b → w ≡ v → n ≡ m → fault_by lacks row column w at empty n ≡ fault_by l a b v at empty m
same_numbers at empty p q r s u = rw (p, q, r, s, u)

module _ (h : List Call) where
  abbrev tray : Tray
  tray = tray_after h

  abbrev pub fault_in : Finding
  fault_in = fault_by (is_none (board_there h)) (row_in h) (column_in h) (width_in h) (rows_at h) (empty_in h) (bands_in h)

  -- a board that is there is within the limits
  sizes : (o : Option Size) → board_there h ≡ o → is_none o ≡ false → (1 ≤ width_in h) × (width_in h ≤ 16) × (bands_in h ≤ 8)
  sizes none e there = not_both refl there
  sizes (some s) e there =
      let w = (every_list h).board.width s e in
      (w.0, w.1, ((every_list h).board.bands s e).1)

  with_board_lem : is_none (board_there h) ≡ false → fault_of tray ≡ fault_in
  unfolding fault_of
  with_board_lem there =
      let state = (every_list h).after in
      let s = sizes (board_there h) refl there in
      let lacks : lacks_board tray ≡ false = state.lacks_board_lem ∙ there in
      let width : width_of tray.board ≡ width_in h = ap (λ (x : ℕ). max 1 (min x 16)) state.width ∙ omega (arith, s.0, s.1) in
      let bands : bands_of tray.board ≡ bands_in h = ap (λ (x : ℕ). min x 8) state.bands ∙ omega (arith, s.2) in
      let rows : (p : ℕ) → p < bands_in h → band_rows tray.board p ≡ rows_at h p = λ p l. state.rows p (omega (arith, l, s.2)) in
      let empty : (p : ℕ) → p < bands_in h → is_empty tray.board p ≡ empty_in h p = λ p l. state.empty p (omega (arith, l, s.2)) in
      same_numbers (band_rows tray.board) (is_empty tray.board) lacks state.row state.column width bands
      ∙ ap₂ (λ (o : Option Finding) (f : Finding). or_then o f)
      (rows_same (band_rows tray.board) (rows_at h) (is_empty tray.board) (empty_in h) (bands_in h) rows empty (row_in h))
      (beyond_same (band_rows tray.board) (rows_at h) (is_empty tray.board) (empty_in h) (bands_in h) rows empty (column_in h) (width_in h) (before_is h).within)
      ∙ sym (rw there)

  pub fault_after : fault_of tray ≡ fault_in
  unfolding fault_of
  fault_after =
      by_test (is_none (board_there h))
      (λ e. let lacks : lacks_board tray ≡ true = (every_list h).after.lacks_board_lem ∙ e in rw (lacks, e))
      with_board_lem
