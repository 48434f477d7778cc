-- The state agrees with two rules, a board and the bytes at each band, or none: `Agrees`. A fresh
-- tray agrees with nothing, an opening or an installation empties all bands, a delivery fills one
-- and a withdrawal empties one. Assumes nothing.
--
--   Rules, Band              what holds of the rules, and of one band
--   Agrees                   what holds of the state
--   Opened, opened_law       what an opening that met no condition has
--   no_rule_lem, few, no_board, bands_same, width_same  what the state's tests test
--   all-empty, all_removed   a board with all bands empty, and none
--   cleared_holds, filled_holds   one band changed
use mathlib.Core.Path.{◌≡◌, refl, sym, ap, ap₂, ◌∙◌, subst}
use mathlib.Core.Bool.{Bool, false, ◌||◌}
use mathlib.Core.List.{List}
use mathlib.Core.Option.{Option, none, some}
use Prim.Native.Nat.{ℕ, ◌≤◌, ◌<◌, min, max}
use native.Mathlib.Omega.{arith}
use lib.Dec.{eqb}
use borrow.Author.Tests.{ne_eqb, eqb-true, eqb-false}
use Rattle.base.specs.Conditions.{first_of}
use Rattle.base.specs.Options.{is_none}
use Rattle.base.proofs.Conditions.{none_law, outside_law}
use Rattle.base.proofs.Options.{none-some}
use Rattle.base.proofs.Tests.{by_test, or_left, or_right, not_both}
use Rattle.automaton.specs.declared.Rule.{Rule}
use Rattle.calls.specs.Calls.{install_number}
use Rattle.histories.specs.History.{rule_from}
use Rattle.histories.proofs.Agreement.{placed, placed_own, placed_other}
use Rattle.histories.proofs.Steps.{accepted_rule}
use Rattle.trays.specs.declared.TrayBoard.{TrayBoard}
use Rattle.trays.specs.declared.Tray.{Tray}
use Rattle.trays.specs.Rows.{rows_in}
use Rattle.trays.specs.Calls.{not_rows, foreign_to, open_conditions}
use Rattle.trays.specs.Boards.{width_of, bands_of, band_rows, is_empty, empty_board, filled_at, cleared_at}
use Rattle.trays.specs.mirror.Steps.{fresh, lacks_rule, lacks_board, with_board}
use Rattle.trays.proofs.Bands.{Sized, sized_empty, empty_all, empty_rows, Changed, filled_at_lem, cleared_at_lem}
use Rattle.trayhistories.specs.History.{Size, width_from, bands_from, rows_from}

-- the bytes b pass 39 and 13
abbrev pub Passes : ℕ → ℕ → ℕ → List ℕ → Type 0
Passes w kr kc b = (not_rows w b ≡ false) × (foreign_to kr kc b ≡ false)

-- band p of the board c has the bytes o, which passed 39 and 13, or none
pub record Band (w kr kc : ℕ) (c : TrayBoard) (p : ℕ) (o : Option (List ℕ)) : Type 0 where
  pub empty : is_empty c p ≡ is_none o
  pub rows : band_rows c p ≡ rows_from w o
  pub passed : (b : List ℕ) → o ≡ some b → Passes w kr kc b

-- the rules are those, each accepted by its installation, or zeros
pub record Rules (row column : Option Rule) (t : Tray) : Type 0 where
  pub row_is : t.row ≡ rule_from row
  pub column-is : t.column ≡ rule_from column
  pub row_good : (r : Rule) → row ≡ some r → install_number r ≡ none
  pub column_good : (r : Rule) → column ≡ some r → install_number r ≡ none

-- another board does not touch them
pub kept_rules : (row column : Option Rule) (t : Tray) (c : TrayBoard) → Rules row column t → Rules row column (with_board t c)
kept_rules row column t c r = record { row_is = r.row_is; column-is = r.column-is; row_good = r.row_good; column_good = r.column_good }

-- the number with which an opening is refused, by the rules that are there
abbrev opening : Option Rule → Option Rule → Size → Option ℕ
opening row column s = first_of (open_conditions (is_none row || is_none column) s.width s.bands)

pub record Agrees (row column : Option Rule) (board : Option Size) (at : ℕ → Option (List ℕ)) (t : Tray) : Type 0 where
  pub rules : Rules row column t
  pub sized : Sized t.board
  pub width_is : t.board.width ≡ width_from board
  pub bands_are : t.board.bands ≡ bands_from board
  -- the opening met no condition
  pub opened : (s : Size) → board ≡ some s → opening row column s ≡ none
  pub beyond : (p : ℕ) → bands_from board ≤ p → at p ≡ none
  pub bands_hold : (p : ℕ) → p < 8 → Band (width_from board) (rule_from row).k (rule_from column).k t.board p (at p)

-- ---- what the state's tests test
-- a rule is absent exactly where its n is 0
lacks_law : (o : Option Rule) (r : Rule) → r ≡ rule_from o → ((x : Rule) → o ≡ some x → install_number x ≡ none) → eqb r.n 0 ≡ is_none o
lacks_law none r e good = ap (λ (x : Rule). eqb x.n 0) e
lacks_law (some x) r e good =
    let n-is : r.n ≡ x.n = ap (λ (y : Rule). y.n) e in
    ne_eqb r.n 0 (λ z. absurd (omega (arith, n-is, z, (accepted_rule x (good x refl)).0.states)))

-- what an opening that met no condition has
pub record Opened (row column : Option Rule) (s : Size) : Type 0 where
  pub row_there_lem : is_none row ≡ false
  pub column_there_lem : is_none column ≡ false
  pub wide : (1 ≤ s.width) × (s.width ≤ 16)
  pub many : (1 ≤ s.bands) × (s.bands ≤ 8)

pub opened_law : (row column : Option Rule) (s : Size) → opening row column s ≡ none → Opened row column s
opened_law row column s e =
    let x = (none_law (open_conditions (is_none row || is_none column) s.width s.bands)).0 e in record {
      row_there_lem = or_left (is_none row) (is_none column) x.0;
      column_there_lem = or_right (is_none row) (is_none column) x.0;
      wide = (outside_law 1 16 s.width).0 x.1.0;
      many = (outside_law 1 8 s.bands).0 x.1.1.0;
    }

module _ (row column : Option Rule) (board : Option Size) (at : ℕ → Option (List ℕ)) (t : Tray) (holds : Agrees row column board at t) where
  pub no_rule_lem : lacks_rule t ≡ (is_none row || is_none column)
  no_rule_lem =
      ap₂ (λ (x y : Bool). x || y) (lacks_law row t.row holds.rules.row_is holds.rules.row_good)
      (lacks_law column t.column holds.rules.column-is holds.rules.column_good)

  pub few : bands_from board ≤ 8
  few = by_board board (λ s e. (opened_law row column s (holds.opened s e)).many.1)
    where
      by_board : (o : Option Size) → ((s : Size) → o ≡ some s → s.bands ≤ 8) → bands_from o ≤ 8
      by_board none f = omega arith
      by_board (some s) f = f s refl

  pub no_board : lacks_board t ≡ is_none board
  no_board = ap (λ (x : ℕ). eqb x 0) holds.bands_are ∙ by_board board (λ s e. (opened_law row column s (holds.opened s e)).many.0)
    where
      by_board : (o : Option Size) → ((s : Size) → o ≡ some s → 1 ≤ s.bands) → eqb (bands_from o) 0 ≡ is_none o
      by_board none f = refl
      by_board (some s) f = ne_eqb s.bands 0 (λ z. absurd (omega (arith, z, f s refl)))

  pub bands_same : bands_of t.board ≡ bands_from board
  bands_same = ap (λ (x : ℕ). min x 8) holds.bands_are ∙ omega (arith, few)

  pub width_same : is_none board ≡ false → width_of t.board ≡ width_from board
  width_same there =
      ap (λ (x : ℕ). max 1 (min x 16)) holds.width_is
      ∙ by_board board there (λ s e. (opened_law row column s (holds.opened s e)).wide)
    where
      by_board : (o : Option Size) → is_none o ≡ false → ((s : Size) → o ≡ some s → (1 ≤ s.width) × (s.width ≤ 16))
          → max 1 (min (width_from o) 16) ≡ width_from o
      by_board none e f = not_both refl e
      by_board (some s) e f = let x = f s refl in omega (arith, x.0, x.1)

-- ---- all bands empty
module _ (row column : Option Rule) (board : Option Size) (t : Tray) (rules : Rules row column t) where
  pub all-empty : t.board ≡ empty_board (width_from board) (bands_from board)
      → ((s : Size) → board ≡ some s → opening row column s ≡ none) → Agrees row column board (λ p. none) t
  unfolding empty_board
  all-empty is opened =
      let w : ℕ = width_from board in
      let n : ℕ = bands_from board in record {
        rules = rules;
        sized = subst Sized (sym is) (sized_empty w n);
        width_is = ap (λ (b : TrayBoard). b.width) is;
        bands_are = ap (λ (b : TrayBoard). b.bands) is;
        opened = opened;
        beyond = λ p h. refl;
        bands_hold = λ p h. record {
          empty = ap (λ (b : TrayBoard). is_empty b p) is ∙ empty_all w n p;
          rows = ap (λ (b : TrayBoard). band_rows b p) is ∙ empty_rows w n p;
          passed = λ b e. none-some refl e;
        };
      }

-- no board on it
pub all_removed : (row column : Option Rule) (t : Tray) → Rules row column t → t.board ≡ empty_board 0 0 → Agrees row column none (λ p. none) t
all_removed row column t rules is = all-empty row column none t rules is (λ s e. none-some refl e)

pub fresh_holds : Agrees none none none (λ p. none) fresh
unfolding fresh
fresh_holds = all_removed none none fresh no_rules refl
  where
    no_rules : Rules none none fresh
    no_rules = record { row_is = refl; column-is = refl; row_good = λ r e. none-some refl e; column_good = λ r e. none-some refl e }

-- ---- one band changed
module _ (row column : Option Rule) (board : Option Size) (at : ℕ → Option (List ℕ)) (t : Tray) (holds : Agrees row column board at t) (p : ℕ) (h : p < bands_from board) where
  pub band_below : p < 8
  band_below = omega (arith, h, few row column board at t holds)

  changed_holds : (new : Option (List ℕ)) (c : TrayBoard)
      → ((b : List ℕ) → new ≡ some b → Passes (width_from board) (rule_from row).k (rule_from column).k b)
      → Changed t.board c p (is_none new) (rows_from (width_from board) new)
      → Agrees row column board (placed at p new) (with_board t c)
  changed_holds new c passed changed = record {
    rules = kept_rules row column t c holds.rules;
    sized = changed.sized;
    width_is = changed.width_same ∙ holds.width_is;
    bands_are = changed.bands_same ∙ holds.bands_are;
    opened = holds.opened;
    beyond = λ i b. placed_other at p new i (λ e. absurd (omega (arith, h, b, e))) ∙ holds.beyond i b;
    bands_hold = λ i l.
        by_test (eqb i p)
        (λ e.
        let z = eqb-true i p e in
        subst (λ (x : ℕ). Holds x (placed at p new x)) (sym z)
        (subst (Holds p) (sym (placed_own at p new))
        (record { empty = changed.empty_own; rows = changed.rows_own; passed = passed })))
        (λ e.
        let ne = eqb-false i p e in
        let old = holds.bands_hold i l in
        subst (Holds i) (sym (placed_other at p new i ne))
        (record {
          empty = changed.empty_other i ne ∙ old.empty;
          rows = changed.rows_other i l ne ∙ old.rows;
          passed = old.passed;
        }));
  }
    where
      Holds : ℕ → Option (List ℕ) → Type 0
      Holds i o = Band (width_from board) (rule_from row).k (rule_from column).k c i o

  pub cleared_holds : Agrees row column board (placed at p none) (with_board t (cleared_at t.board p))
  cleared_holds = changed_holds none (cleared_at t.board p) (λ b e. none-some refl e) (cleared_at_lem t.board p holds.sized band_below)

  pub filled_holds : (b : List ℕ) → is_none board ≡ false → Passes (width_from board) (rule_from row).k (rule_from column).k b
      → Agrees row column board (placed at p (some b)) (with_board t (filled_at t.board p b))
  filled_holds b there passed =
      let w : width_of t.board ≡ width_from board = width_same row column board at t holds there in
      changed_holds (some b) (filled_at t.board p b)
      (λ c e. let z : b ≡ c = cc in subst (Passes (width_from board) (rule_from row).k (rule_from column).k) z passed)
      (subst (λ (x : ℕ). Changed t.board (filled_at t.board p b) p false (rows_in x b)) w
      (filled_at_lem t.board p holds.sized band_below b (rw w passed.0)))
