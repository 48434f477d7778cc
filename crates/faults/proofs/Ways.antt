-- One lemma over plain variables for each way out of a search. Assumes nothing.
--
--   found_empty, past_full, none_empty     the bands before the first empty one
--   answer_found, answer_none, all_done    an answer is what is found; it has none; all are passed
--   way_stuck, way_ends, band_walked       a column is lost; it is not; one band more of it
--   lost_first, column_lost, column_ends   the ways out of a column
--   short_was, short_not, short_now        a short column: an earlier one, none, this one
--   lost_or_short, none_lost, short_next, only_short, not_full   all columns
--   fault_found, fault_open                the ways out beyond the rows
--   fault_21, fault_row, fault_beyond      those of the whole
use Rattle.std.specs.Prelude as code
use Rattle.std.proofs.Common.{Some, None}
use mathlib.Core.Path.{◌≡◌, refl, sym, ap, ap₂, ◌∙◌}
use mathlib.Core.Bool.{Bool, true, false, cond, not}
use mathlib.Core.List.{List}
use mathlib.Core.Option.{Option, none, some}
use Prim.Native.Nat.{ℕ, ◌+◌, ◌*◌, ◌≤◌, ◌<◌}
use native.Mathlib.Omega.{arith}
use lib.Dec.{eqb}
use lib.ListN.{get_or, drop}
use borrow.Author.Tests.{eq-eqb, ne_eqb, not-true, not-false}
use Rattle.base.proofs.Tests.{zero_one}
use Rattle.masks.specs.Masks.{shares}
use Rattle.automaton.specs.declared.Rule.{Rule}
use Rattle.automaton.specs.Successor.{after}
use Rattle.live.specs.Live.{live_of}
use Rattle.trays.specs.declared.Tray.{Tray}
use Rattle.trays.specs.Rows.{rows_of, rows_up_to, column_of}
use Rattle.trays.specs.Boards.{width_of, bands_of, count_in, band_in, band_rows, is_empty}
use Rattle.trayverdict.proofs.Walks.{column_on}
use Rattle.faults.specs.declared.TrayFault.{TrayFault}
use Rattle.faults.specs.First.{or_else, or_then, first_found}
use Rattle.faults.specs.Faulting.{Finding, refused_as, column_at, short_at, open_with, finding_means, found_means, Way, stuck, reaches, way_by, rows_wrong, band_stuck, band_on, column_stuck, column_short, empty_at, before_empty, columns_by, beyond_rows, fault_of}
use Rattle.faults.proofs.First.{first_next, first_more, first_here}

-- ---- before the first empty band
module _ (filled : List ℕ) (n p : ℕ) where
  abbrev empty : ℕ → Bool
  empty q = eqb (get_or filled q 0) 0

  pub found_empty : p < n → first_found (empty_at empty) p ≡ none → get_or filled p 0 ≡ 0 → p ≡ before_empty empty n
  found_empty l before here =
      sym (ap (λ (o : Option ℕ). or_then o n) (first_here (empty_at empty) n p p l before (rw (eq-eqb (get_or filled p 0) 0 here))))

  pub past_full : first_found (empty_at empty) p ≡ none → (get_or filled p 0 ≡ 0 → ⊥) → first_found (empty_at empty) (p + 1) ≡ none
  past_full before here = first_more (empty_at empty) p before (rw (ne_eqb (get_or filled p 0) 0 here))

  pub none_empty : p ≤ n → n ≤ p → first_found (empty_at empty) p ≡ none → p ≡ before_empty empty n
  none_empty k l before =
      let e : p ≡ n = omega arith in
      e ∙ sym (ap (λ (o : Option ℕ). or_then o n) (ap (first_found (empty_at empty)) (sym e) ∙ before))

-- ---- a search by its answers
module _ (g : ℕ → Option Finding) (n p : ℕ) (before : first_found g p ≡ none) where
  pub answer_found : p < n → (f : Finding) → some f ≡ g p → some f ≡ first_found g n
  answer_found l f is = sym (first_here g n p f l before (sym is))

  pub answer_none : none ≡ g p → first_found g (p + 1) ≡ none
  answer_none is = first_more g p before (sym is)

  pub all_done : p ≤ n → n ≤ p → none ≡ first_found g n
  all_done k l = let e : p ≡ n = omega arith in sym (ap (first_found g) (sym e) ∙ before)

-- ---- a column that is walked
module _ (m : ℕ) where
  pub way_stuck : (o : Option Finding) (f : Finding) → stuck f ≡ way_by o m → o ≡ some f
  way_stuck none f z = zero_one cc
  way_stuck (some x) f z = let same : f ≡ x = cc in ap some (sym same)

  pub way_ends : (o : Option Finding) (s : ℕ) → reaches s ≡ way_by o m → (o ≡ none) × (s ≡ m)
  way_ends none s z = (refl, cc)
  way_ends (some x) s z = zero_one cc

module _ (ts : List ℕ) (live c m : ℕ) (at : ℕ → List (List ℕ)) (n : ℕ) (x : Bool) (meets : x ≡ shares m live) where
  pub lost_first : not x ≡ true → (last : ℕ) → stuck (column_at c 0 0) ≡ way_by (column_stuck ts live c m at n) last
  lost_first e last = rw (← meets, not-true x e)

  pub column_lost : not x ≡ false → (f : Finding) → first_found (band_on ts live c m at) n ≡ some f → (last : ℕ)
      → stuck f ≡ way_by (column_stuck ts live c m at n) last
  column_lost e f is last = rw (← meets, not-false x e, is)

  pub column_ends : not x ≡ false → first_found (band_on ts live c m at) n ≡ none → (last : ℕ)
      → reaches last ≡ way_by (column_stuck ts live c m at n) last
  column_ends e is last = rw (← meets, not-false x e, is)

-- one band more
pub band_walked : (ts : List ℕ) (live c m w : ℕ) (rows cells : List ℕ) (p x : ℕ) → x ≡ after ts m (column_of c (rows_up_to (band_in w rows cells) p))
    → (n : ℕ) → n ≡ count_in rows p → (y : Way)
    → y
    ≡ way_by (band_stuck ts live c x p (rows_of w n (drop (p * 1024) cells))) (after ts x (column_of c (rows_of w n (drop (p * 1024) cells))))
    → y ≡ way_by (band_on ts live c m (band_in w rows cells) p) (after ts m (column_of c (rows_up_to (band_in w rows cells) (p + 1))))
band_walked ts live c m w rows cells p x before n count y is =
    is
    ∙ ap₂ way_by (ap₂ (λ (s k : ℕ). band_stuck ts live c s p (rows_of w k (drop (p * 1024) cells))) before count)
    (column_on ts m c w rows cells p x before n count _ refl)

-- ---- a column that stopped too early
module _ (o : code.Option TrayFault) where
  pub short_was : (f : TrayFault) (u : Option Finding) → o ≡ Some f → found_means (Some f) ≡ or_else (found_means o) u
  short_was f u e = rw e

  module _ (c set finals : ℕ) (x : Bool) (meets : x ≡ shares set finals) (e : o ≡ None) where
    pub short_not : x ≡ true → none ≡ or_else (found_means o) (cond (shares set finals) none (some (short_at c)))
    short_not t = rw (e, ← meets, t)

    pub short_now : x ≡ false → some (short_at c) ≡ or_else (found_means o) (cond (shares set finals) none (some (short_at c)))
    short_now t = rw (e, ← meets, t)

-- ---- all columns
module _ (r : Rule) (at : ℕ → List (List ℕ)) (w n : ℕ) where
  abbrev pub stuck_at : ℕ → Option Finding
  stuck_at c = column_stuck r.targets (live_of r) c r.initials at n

  module _ (c : ℕ) (before : first_found stuck_at c ≡ none) (live : ℕ) (lives : live ≡ live_of r) where
    is : (y : Way) → y ≡ way_by (column_stuck r.targets live c r.initials at n) (after r.targets r.initials (column_of c (rows_up_to at n)))
        → y ≡ way_by (stuck_at c) (after r.targets r.initials (column_of c (rows_up_to at n)))
    is y walked = walked ∙ ap (λ (x : ℕ). way_by (column_stuck r.targets x c r.initials at n) (after r.targets r.initials (column_of c (rows_up_to at n)))) lives

    pub lost_or_short : c < w → (f : Finding)
        → stuck f ≡ way_by (column_stuck r.targets live c r.initials at n) (after r.targets r.initials (column_of c (rows_up_to at n)))
        → (full : Bool) → some f ≡ columns_by r at w n full
    lost_or_short l f walked full =
        let o = first_here stuck_at w c f l before (way_stuck (after r.targets r.initials (column_of c (rows_up_to at n))) (stuck_at c) f (is (stuck f) walked)) in
        rw o

    module _ (s : ℕ) (walked : reaches s ≡ way_by (column_stuck r.targets live c r.initials at n) (after r.targets r.initials (column_of c (rows_up_to at n)))) where
      ends : (stuck_at c ≡ none) × (s ≡ after r.targets r.initials (column_of c (rows_up_to at n)))
      ends = way_ends (after r.targets r.initials (column_of c (rows_up_to at n))) (stuck_at c) s (is (reaches s) walked)

      pub none_lost : first_found stuck_at (c + 1) ≡ none
      none_lost = first_more stuck_at c before ends.0

      pub short_next : (o u : code.Option TrayFault) → found_means o ≡ first_found (column_short r at n) c
          → found_means u ≡ or_else (found_means o) (cond (shares s r.finals) none (some (short_at c)))
          → found_means u ≡ first_found (column_short r at n) (c + 1)
      short_next o u so_far here =
          here
          ∙ ap₂ (λ (a : Option Finding) (x : ℕ). or_else a (cond (shares x r.finals) none (some (short_at c)))) so_far ends.1
          ∙ sym (first_next (column_short r at n) c)

  module _ (c : ℕ) (k : c ≤ w) (l : w ≤ c) (before : first_found stuck_at c ≡ none) (full : Bool) where
    all : (u : Bool) → full ≡ u → cond u (first_found (column_short r at n) w) none ≡ columns_by r at w n full
    all u e =
        let same : c ≡ w = omega arith in
        let nothing : first_found stuck_at w ≡ none = ap (first_found stuck_at) (sym same) ∙ before in
        rw (nothing, e)

    pub only_short : (o : code.Option TrayFault) → found_means o ≡ first_found (column_short r at n) c → full ≡ true → found_means o ≡ columns_by r at w n full
    only_short o short e =
        let same : c ≡ w = omega arith in
        short ∙ ap (first_found (column_short r at n)) same ∙ all true e

    pub not_full : full ≡ false → none ≡ columns_by r at w n full
    not_full e = all false e

-- ---- beyond the rows
module _ (r : Rule) (w : ℕ) (at : ℕ → List (List ℕ)) (empty : ℕ → Bool) (n m : ℕ) (before : m ≡ before_empty empty n)
    (o : code.Option TrayFault) (is : found_means o ≡ columns_by r at w m (eqb m n)) where
  given : found_means o ≡ columns_by r at w (before_empty empty n) (eqb (before_empty empty n) n)
  given = is ∙ ap (λ (x : ℕ). columns_by r at w x (eqb x n)) before

  pub fault_found : (f : TrayFault) → o ≡ Some f → finding_means f ≡ beyond_rows r w at empty n
  fault_found f e =
      ap (λ (u : Option Finding). or_then u (open_with (before_empty empty n))) (sym (ap found_means e) ∙ given)

  pub fault_open : o ≡ None → open_with m ≡ beyond_rows r w at empty n
  fault_open e =
      ap open_with before ∙ ap (λ (u : Option Finding). or_then u (open_with (before_empty empty n))) (sym (ap found_means e) ∙ given)

-- ---- the whole
module _ (t : Tray) where
  pub fault_21 : t.board.bands ≡ 0 → refused_as 21 ≡ fault_of t
  unfolding fault_of
  fault_21 z = rw (eq-eqb t.board.bands 0 z)

  module _ (there : t.board.bands ≡ 0 → ⊥) (w n : ℕ) (width : w ≡ width_of t.board) (bands : n ≡ bands_of t.board) where
    rows_are : (o : Option Finding) → o ≡ rows_wrong t.row (band_in w t.board.rows t.board.cells) n
        → o ≡ rows_wrong t.row (band_rows t.board) (bands_of t.board)
    rows_are o is = is ∙ ap₂ (λ (x m : ℕ). rows_wrong t.row (band_in x t.board.rows t.board.cells) m) width bands

    pub fault_row : (f : Finding) → some f ≡ rows_wrong t.row (band_in w t.board.rows t.board.cells) n → f ≡ fault_of t
    unfolding fault_of
    fault_row f is =
        let found : rows_wrong t.row (band_rows t.board) (bands_of t.board) ≡ some f = sym (rows_are (some f) is) in
        rw (ne_eqb t.board.bands 0 there, found)

    pub fault_beyond : none ≡ rows_wrong t.row (band_in w t.board.rows t.board.cells) n → (f : Finding)
        → f ≡ beyond_rows t.column w (band_in w t.board.rows t.board.cells) (is_empty t.board) n → f ≡ fault_of t
    unfolding fault_of
    fault_beyond is f beyond =
        let nothing : rows_wrong t.row (band_rows t.board) (bands_of t.board) ≡ none = sym (rows_are none is) in
        beyond
        ∙ ap₂ (λ (x m : ℕ). beyond_rows t.column x (band_in x t.board.rows t.board.cells) (is_empty t.board) m) width bands
        ∙ sym (rw (ne_eqb t.board.bands 0 there, nothing))
