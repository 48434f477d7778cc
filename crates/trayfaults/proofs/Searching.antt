-- What each search finds, in the list's words: each law says when it finds nothing, what it finds,
-- and that it finds what the words say. Assumes well-formed rules.
--
--   rows_right, row_wrong_lem, wrong_row   the rows
--   column_kept, column_stuck_lem, stuck_column  one column
--   columns_kept, columns_stuck_lem, stuck_columns  all columns: the first that is lost
--   all_accepted, one_short, short_one     the first that is not accepted
--   before_is, before_once                 the bands before the first empty one
use mathlib.Core.Path.{◌≡◌, refl, sym, ap, ◌∙◌, subst}
use mathlib.Core.Logic.{◌↔◌, inl, inr}
use mathlib.Core.Bool.{Bool, true, false, cond}
use mathlib.Core.List.{List, []}
use mathlib.Core.Option.{Option, none, some}
use Prim.Native.Nat.{ℕ, zero, suc, ◌+◌, ◌≤◌, ◌<◌}
use native.Mathlib.Omega.{arith}
use lib.Dec.{ltb}
use lib.ListN.{length, get_or, take}
use lib.Seq.{take-length}
use borrow.Author.Tests.{ltb-true, ltb-false}
use Rattle.base.specs.Options.{is_none}
use Rattle.base.specs.Totals.{total}
use Rattle.base.proofs.Options.{is-none, is_some_lem, none-some}
use Rattle.base.proofs.Tests.{by_test, not_both}
use Rattle.masks.specs.Masks.{shares}
use Rattle.automaton.specs.Automaton.{Automaton}
use Rattle.automaton.specs.Rules.{automaton_of, WellFormed}
use Rattle.automaton.specs.Successor.{after}
use Rattle.automaton.proofs.Claims as automaton
use Rattle.live.specs.Live.{live_of}
use Rattle.live.specs.Continued.{Continued}
use Rattle.live.proofs.Claims as live
use Rattle.trays.specs.Rows.{rows_up_to, column_of, accepted}
use Rattle.trays.specs.Calls.{Call}
use Rattle.trays.specs.Claims.{rows_below}
use Rattle.trays.proofs.Claims as trays
use Rattle.trays.proofs.Rows.{accepted_law}
use Rattle.trayverdict.proofs.Walks.{column_append}
use Rattle.trayhistories.specs.History.{row_in, column_in, width_in, bands_in, standing, joined_rows, rows_at}
use Rattle.faults.specs.First.{or_then, first_found}
use Rattle.faults.specs.Faulting.{Finding, row_at, column_at, short_at, band_wrong, rows_wrong, row_stuck, band_on, column_stuck, columns_stuck, column_short, columns_short, row_wrong, empty_at, before_empty}
use Rattle.faults.proofs.First.{none_found, one_found}
use Rattle.trayfaults.specs.Faults.{RowAccepted, RowFault, RowsRight, Before, column_text, whole_column, Hopeful, ColumnAccepted, LostWith, ColumnLost}
use Rattle.trayfaults.proofs.Texts.{below_fits, take_up, column_less, column_part}

-- ---- one test: nothing where it holds
module _ (t : Bool) (f : Finding) where
  passed : cond t none (some f) ≡ none → t ≡ true
  passed e = by_test t (λ y. y) (λ n. let z : some f ≡ none = rw n at e in none-some z refl)

  failed : (g : Finding) → cond t none (some f) ≡ some g → (t ≡ false) × (g ≡ f)
  failed g e =
      by_test t
      (λ y. let z : none ≡ some g = rw y at e in none-some refl z)
      (λ n. let z : some f ≡ some g = rw n at e in (n, cc))

  pass : t ≡ true → cond t none (some f) ≡ none
  pass e = rw e

  fail : t ≡ false → cond t none (some f) ≡ some f
  fail e = rw e

-- a test and what it decides
is_false : {A : Type 0} (t : Bool) → (t ≡ true → A) → (A → ⊥) → t ≡ false
is_false t f n = by_test t (λ y. absurd (n (f y))) (λ e. e)

-- ---- the rows
module _ (h : List Call) (good : WellFormed (row_in h)) where
  row_law : (b i : ℕ) → (accepted (row_in h) (get_or (rows_at h b) i []) ≡ true) ↔ RowAccepted h b i
  row_law b i = accepted_law (row_in h) good (get_or (rows_at h b) i [])

  abbrev row_test : ℕ → ℕ → Option Finding
  row_test b = row_wrong (row_in h) b (rows_at h b)

  abbrev band_test : ℕ → Option Finding
  band_test b = band_wrong (row_in h) b (rows_at h b)

  -- the rows of a band
  band_right : (b : ℕ) → (band_test b ≡ none) ↔ ((i : ℕ) → i < length (rows_at h b) → RowAccepted h b i)
  band_right b =
      let law = none_found (row_test b) (length (rows_at h b)) in (
        (λ e i l. (row_law b i).0 (passed (accepted (row_in h) (get_or (rows_at h b) i [])) (row_at b i) (law.0 e i l))),
        λ x. law.1 (λ i l. pass (accepted (row_in h) (get_or (rows_at h b) i [])) (row_at b i) ((row_law b i).1 (x i l))),
      )

  pub rows_right : (rows_wrong (row_in h) (rows_at h) (bands_in h) ≡ none) ↔ RowsRight h
  rows_right =
      let law = none_found band_test (bands_in h) in (
        (λ e b i l k. (band_right b).0 (law.0 e b l) i k),
        λ x. law.1 (λ b l. (band_right b).1 (λ i k. x b i l k)),
      )

  pub row_wrong_lem : (f : Finding) → rows_wrong (row_in h) (rows_at h) (bands_in h) ≡ some f → (b : ℕ) × (i : ℕ) × (f ≡ row_at b i) × RowFault h b i
  row_wrong_lem f e =
      let x = (one_found band_test (bands_in h) f).0 e in
      let b = x.0 in
      let y = (one_found (row_test b) (length (rows_at h b)) f).0 x.2 in
      let i = y.0 in
      let z = failed (accepted (row_in h) (get_or (rows_at h b) i [])) (row_at b i) f y.2 in (
        b,
        i,
        z.1,
        record {
          band = x.1;
          row = y.1;
          rejected = λ a. not_both ((row_law b i).1 a) z.0;
          lower = λ a j l k. (band_right a).0 (x.3 a l) j k;
          earlier = λ j l. (row_law b j).0 (passed (accepted (row_in h) (get_or (rows_at h b) j [])) (row_at b j) (y.3 j l));
        },
      )

  pub wrong_row : (b i : ℕ) → RowFault h b i → rows_wrong (row_in h) (rows_at h) (bands_in h) ≡ some (row_at b i)
  wrong_row b i x =
      (one_found band_test (bands_in h) (row_at b i)).1 (
        b,
        x.band,
        (one_found (row_test b) (length (rows_at h b)) (row_at b i)).1 (
          i,
          x.row,
          fail (accepted (row_in h) (get_or (rows_at h b) i [])) (row_at b i)
              (is_false (accepted (row_in h) (get_or (rows_at h b) i [])) (row_law b i).0 x.rejected),
          λ j l. pass (accepted (row_in h) (get_or (rows_at h b) j [])) (row_at b j) ((row_law b j).1 (x.earlier j l)),
        ),
        λ a l. (band_right a).1 (λ j k. x.lower a j l k),
      )

-- ---- the columns
module _ (h : List Call) (good : WellFormed (column_in h)) (m : ℕ) where
  abbrev automaton_in : Automaton
  automaton_in = automaton_of (column_in h)

  abbrev ts : List ℕ
  ts = (column_in h).targets

  abbrev stuck_in : ℕ → Option Finding
  stuck_in c = column_stuck ts (live_of (column_in h)) c (column_in h).initials (rows_at h) m

  module _ (c : ℕ) where
    -- a live state is left with the first k rows
    abbrev alive : ℕ → Bool
    alive k = shares (after ts (column_in h).initials (column_text h m c k)) (live_of (column_in h))

    alive_law : (k : ℕ) → Continued automaton_in (column_text h m c k) ↔ (alive k ≡ true)
    alive_law k = (live.claims).continued (column_in h) good (column_text h m c k)

    -- row i of band b is that row of all
    abbrev number : ℕ → ℕ → ℕ
    number b i = rows_below (rows_at h) b + i

    abbrev row_on : ℕ → ℕ → Option Finding
    row_on b = row_stuck ts (live_of (column_in h)) c (after ts (column_in h).initials (column_of c (rows_up_to (rows_at h) b))) b (rows_at h b)

    test_is : (b i : ℕ) → b < m → i < length (rows_at h b) → row_on b i ≡ cond (alive (suc (number b i))) none (some (column_at c b i))
    test_is b i l k =
        let e : rows_below (rows_at h) b + suc i ≡ suc (number b i) = omega arith in
        ap (λ (x : ℕ). cond (shares x (live_of (column_in h))) none (some (column_at c b i)))
        (sym ((automaton.claims).after-append ts (column_in h).initials (column_of c (rows_up_to (rows_at h) b)) (column_of c (take (suc i) (rows_at h b))))
        ∙ ap (after ts (column_in h).initials)
        (sym (column_append c (rows_up_to (rows_at h) b) (take (suc i) (rows_at h b)))
        ∙ ap (column_of c) (sym (take_up (rows_at h) m b (suc i) l (omega arith)))
        ∙ ap (column_text h m c) e))

    -- a band in which it is not lost
    on_law : (b : ℕ) → b < m → (band_on ts (live_of (column_in h)) c (column_in h).initials (rows_at h) b ≡ none)
        ↔ ((i : ℕ) → i < length (rows_at h b) → alive (suc (number b i)) ≡ true)
    on_law b l =
        let law = none_found (row_on b) (length (rows_at h b)) in (
          (λ e i k. passed (alive (suc (number b i))) (column_at c b i) (sym (test_is b i l k) ∙ law.0 e i k)),
          λ x. law.1 (λ i k. test_is b i l k ∙ pass (alive (suc (number b i))) (column_at c b i) (x i k)),
        )

    begin : alive 0 ≡ shares (column_in h).initials (live_of (column_in h))
    unfolding column_of
    begin = refl

    -- with no row a live state is left, and with each row of the bands below b one is: so it is in
    -- band b
    through : (b n : ℕ) → alive (rows_below (rows_at h) b) ≡ true → ((j : ℕ) → j < n → alive (suc (number b j)) ≡ true) → alive (number b n) ≡ true
    through b zero before x = let e : rows_below (rows_at h) b ≡ number b 0 = omega arith in subst (λ (k : ℕ). alive k ≡ true) e before
    through b (suc n) before x = let e : suc (number b n) ≡ number b (suc n) = omega arith in subst (λ (k : ℕ). alive k ≡ true) e (x n (omega arith))

    goes_on : alive 0 ≡ true → (b : ℕ) → ((a j : ℕ) → a < b → j < length (rows_at h a) → alive (suc (number a j)) ≡ true) → alive (rows_below (rows_at h) b) ≡ true
    unfolding total
    goes_on first zero x = first
    goes_on first (suc b) x = through b (length (rows_at h b)) (goes_on first b (λ a j l k. x a j (omega arith) k)) (λ j k. x b j (omega arith) k)

    whole_is : column_text h m c (rows_below (rows_at h) m) ≡ whole_column h m c
    whole_is =
        ap (column_text h m c) (sym ((trays.claims).bands_law (rows_at h) m).rows)
        ∙ ap (column_of c) (take-length (joined_rows (width_in h) (standing h) m))

    -- nothing is found exactly where the whole column can be continued
    kept : stuck_in c ≡ none → Hopeful h m c
    kept e =
        by_test (alive 0)
        (λ first.
        let start : shares (column_in h).initials (live_of (column_in h)) ≡ true = sym begin ∙ first in
        let found : first_found (band_on ts (live_of (column_in h)) c (column_in h).initials (rows_at h)) m ≡ none = rw start at e in
        let law = (none_found (band_on ts (live_of (column_in h)) c (column_in h).initials (rows_at h)) m).0 found in
        subst (Continued automaton_in) whole_is
        ((alive_law (rows_below (rows_at h) m)).1 (goes_on first m (λ a j l k. (on_law a l).0 (law a l) j k))))
        (λ first.
        let start : shares (column_in h).initials (live_of (column_in h)) ≡ false = sym begin ∙ first in
        let found : some (column_at c 0 0) ≡ none = rw start at e in
        none-some found refl)

    alive_part : (k : ℕ) → Hopeful h m c → alive k ≡ true
    alive_part k x = (alive_law k).0 (column_part automaton_in c (joined_rows (width_in h) (standing h) m) k x)

    keeps : Hopeful h m c → stuck_in c ≡ none
    keeps x =
        let start : shares (column_in h).initials (live_of (column_in h)) ≡ true = sym begin ∙ alive_part 0 x in
        rw start
        ((none_found (band_on ts (live_of (column_in h)) c (column_in h).initials (rows_at h)) m).1
        (λ b l. (on_law b l).1 (λ i k. alive_part (suc (number b i)) x)))

    pub column_kept : (stuck_in c ≡ none) ↔ Hopeful h m c
    column_kept = (kept, keeps)

    -- what is found is the row with which it is lost
    pub column_stuck_lem : (f : Finding) → stuck_in c ≡ some f → (b : ℕ) × (i : ℕ) × (f ≡ column_at c b i) × LostWith h m c b i
    column_stuck_lem f e =
        by_test (alive 0)
        (λ first.
        let start : shares (column_in h).initials (live_of (column_in h)) ≡ true = sym begin ∙ first in
        let found : first_found (band_on ts (live_of (column_in h)) c (column_in h).initials (rows_at h)) m ≡ some f = rw start at e in
        let x = (one_found (band_on ts (live_of (column_in h)) c (column_in h).initials (rows_at h)) m f).0 found in
        let b = x.0 in
        let y = (one_found (row_on b) (length (rows_at h b)) f).0 x.2 in
        let i = y.0 in
        let z = failed (alive (suc (number b i))) (column_at c b i) f (sym (test_is b i x.1 y.1) ∙ y.2) in
        let below : alive (rows_below (rows_at h) b) ≡ true = goes_on first b (λ a j l k. (on_law a (omega (arith, l, x.1))).0 (x.3 a l) j k) in
        let here : alive (number b i) ≡ true =
        through b i below
        (λ j k.
        passed (alive (suc (number b j))) (column_at c b j) (sym (test_is b j x.1 (omega (arith, k, y.1))) ∙ y.3 j k)) in
        (b, i, z.1, inr (x.1, y.1, (alive_law (number b i)).1 here, λ w. not_both ((alive_law (suc (number b i))).0 w) z.0)))
        (λ first.
        let start : shares (column_in h).initials (live_of (column_in h)) ≡ false = sym begin ∙ first in
        let found : some (column_at c 0 0) ≡ some f = rw start at e in
        (0, 0, cc, inl ((λ w. not_both ((alive_law 0).0 w) first), refl, refl)))

    pub stuck_column : (b i : ℕ) → LostWith h m c b i → stuck_in c ≡ some (column_at c b i)
    stuck_column b i (inl x) =
        let start : shares (column_in h).initials (live_of (column_in h)) ≡ false = sym begin ∙ is_false (alive 0) (alive_law 0).1 x.0 in
        rw (start, x.1, x.2)
    stuck_column b i (inr x) =
        let rows = joined_rows (width_in h) (standing h) m in
        let before : (k : ℕ) → k ≤ number b i → alive k ≡ true = λ k l. (alive_law k).0 (column_less automaton_in c rows k (number b i) l x.2) in
        let start : shares (column_in h).initials (live_of (column_in h)) ≡ true = sym begin ∙ before 0 (omega arith) in
        rw start
        ((one_found (band_on ts (live_of (column_in h)) c (column_in h).initials (rows_at h)) m (column_at c b i)).1 (
          b,
          x.0,
          (one_found (row_on b) (length (rows_at h b)) (column_at c b i)).1 (
            i,
            x.1,
            test_is b i x.0 x.1
                ∙ fail (alive (suc (number b i))) (column_at c b i) (is_false (alive (suc (number b i))) (alive_law (suc (number b i))).1 x.3),
            λ j k.
                test_is b j x.0 (omega (arith, k, x.1)) ∙ pass (alive (suc (number b j))) (column_at c b j) (before (suc (number b j)) (omega (arith, k))),
          ),
          λ a l.
              (on_law a (omega (arith, l, x.0))).1
              (λ j k. before (suc (number a j)) (omega (arith, k, below_fits (rows_at h) b a l))),
        ))

  -- ---- the first column that is lost
  pub columns_kept : (columns_stuck (column_in h) (rows_at h) (width_in h) m ≡ none) ↔ ((d : ℕ) → d < width_in h → Hopeful h m d)
  columns_kept =
      let law = none_found stuck_in (width_in h) in
      ((λ e d l. (column_kept d).0 (law.0 e d l)), λ x. law.1 (λ d l. (column_kept d).1 (x d l)))

  pub columns_stuck_lem : (f : Finding) → columns_stuck (column_in h) (rows_at h) (width_in h) m ≡ some f
      → (c : ℕ) × (b : ℕ) × (i : ℕ) × (f ≡ column_at c b i) × ColumnLost h m c b i
  columns_stuck_lem f e =
      let x = (one_found stuck_in (width_in h) f).0 e in
      let y = column_stuck_lem x.0 f x.2 in
      (x.0, y.0, y.1, y.2, record { column = x.1; earlier = λ d l. (column_kept d).0 (x.3 d l); lost = y.3 })

  pub stuck_columns : (c b i : ℕ) → ColumnLost h m c b i → columns_stuck (column_in h) (rows_at h) (width_in h) m ≡ some (column_at c b i)
  stuck_columns c b i x =
      (one_found stuck_in (width_in h) (column_at c b i)).1
      (c, x.column, stuck_column c b i x.lost, λ d l. (column_kept d).1 (x.earlier d l))

  -- ---- the first column that is not accepted
  column_law : (c : ℕ) → (accepted (column_in h) (column_of c (rows_up_to (rows_at h) m)) ≡ true) ↔ ColumnAccepted h m c
  column_law c = accepted_law (column_in h) good (whole_column h m c)

  abbrev short_in : ℕ → Option Finding
  short_in c = column_short (column_in h) (rows_at h) m c

  abbrev accepted_in : ℕ → Bool
  accepted_in c = accepted (column_in h) (column_of c (rows_up_to (rows_at h) m))

  pub all_accepted : (columns_short (column_in h) (rows_at h) (width_in h) m ≡ none) ↔ ((d : ℕ) → d < width_in h → ColumnAccepted h m d)
  all_accepted =
      let law = none_found short_in (width_in h) in (
        (λ e d l. (column_law d).0 (passed (accepted_in d) (short_at d) (law.0 e d l))),
        λ x. law.1 (λ d l. pass (accepted_in d) (short_at d) ((column_law d).1 (x d l))),
      )

  -- column c is not accepted, and those before it are
  abbrev pub FirstShort : ℕ → Type 0
  FirstShort c = (c < width_in h) × (ColumnAccepted h m c → ⊥) × ((d : ℕ) → d < c → ColumnAccepted h m d)

  pub one_short : (f : Finding) → columns_short (column_in h) (rows_at h) (width_in h) m ≡ some f → (c : ℕ) × (f ≡ short_at c) × FirstShort c
  one_short f e =
      let x = (one_found short_in (width_in h) f).0 e in
      let c = x.0 in
      let z = failed (accepted_in c) (short_at c) f x.2 in
      (c, z.1, (x.1, (λ a. not_both ((column_law c).1 a) z.0), λ d l. (column_law d).0 (passed (accepted_in d) (short_at d) (x.3 d l))))

  pub short_one : (c : ℕ) → FirstShort c → columns_short (column_in h) (rows_at h) (width_in h) m ≡ some (short_at c)
  short_one c x =
      (one_found short_in (width_in h) (short_at c)).1 (
        c,
        x.0,
        fail (accepted_in c) (short_at c) (is_false (accepted_in c) (column_law c).0 x.1),
        λ d l. pass (accepted_in d) (short_at d) ((column_law d).1 (x.2 d l)),
      )

-- ---- the bands before the first empty one
module _ (h : List Call) where
  abbrev pub empty_in : ℕ → Bool
  empty_in p = is_none (standing h p)

  empty_test : (p : ℕ) → empty_at empty_in p ≡ none → empty_in p ≡ false
  empty_test p e = by_test (empty_in p) (λ y. let z : some p ≡ none = rw y at e in none-some z refl) (λ n. n)

  empty_here : (p q : ℕ) → empty_at empty_in p ≡ some q → (empty_in p ≡ true) × (q ≡ p)
  empty_here p q e =
      by_test (empty_in p) (λ y. let z : some p ≡ some q = rw y at e in (y, cc)) (λ n. let z : none ≡ some q = rw n at e in none-some refl z)

  by_found : (o : Option ℕ) → first_found (empty_at empty_in) (bands_in h) ≡ o → Before h (or_then o (bands_in h))
  by_found none e = record {
    within = omega arith;
    stand = λ b l. (is_some_lem (standing h b)).0 (empty_test b ((none_found (empty_at empty_in) (bands_in h)).0 e b l));
    then_empty = λ l. absurd (omega arith);
  }
  by_found (some q) e =
      let x = (one_found (empty_at empty_in) (bands_in h) q).0 e in
      let y = empty_here x.0 q x.2 in
      subst (Before h) (sym y.1)
      (record {
        within = omega (arith, x.1);
        stand = λ b l. (is_some_lem (standing h b)).0 (empty_test b (x.3 b l));
        then_empty = λ l. (is-none (standing h x.0)).0 y.0;
      })

  pub before_is : Before h (before_empty empty_in (bands_in h))
  before_is = by_found (first_found (empty_at empty_in) (bands_in h)) refl

  not-less : (m n : ℕ) → Before h m → Before h n → m < n → ⊥
  not-less m n x y l = y.stand m l (x.then_empty (omega (arith, l, y.within)))

  pub before_once : (m n : ℕ) → Before h m → Before h n → m ≡ n
  before_once m n x y =
      by_test (ltb m n) (λ l. absurd (not-less m n x y (ltb-true m n l)))
      (λ l. by_test (ltb n m) (λ k. absurd (not-less n m y x (ltb-true n m k))) (λ k. omega (arith, ltb-false m n l, ltb-false n m k)))
