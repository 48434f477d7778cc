-- A lost column stays lost while the column rule, the board and the bands up to the one by which it
-- is lost are the same, and no row fault comes up. Assumes nothing.
use mathlib.Core.Path.{◌≡◌, refl, sym, ap, ap₂, ◌∙◌, subst}
use mathlib.Core.Logic.{inl, inr}
use mathlib.Core.List.{List, ◌++◌}
use mathlib.Core.Option.{Option, none, some}
use Prim.Native.Nat.{ℕ, suc, ◌+◌, ◌≤◌, ◌<◌}
use native.Mathlib.Omega.{arith}
use lib.Dec.{ltb}
use lib.ListN.{length, take}
use borrow.Author.Tests.{ltb-true, ltb-false}
use Rattle.base.proofs.Options.{none-some}
use Rattle.base.proofs.Tests.{by_test}
use Rattle.automaton.specs.declared.Rule.{Rule}
use Rattle.automaton.specs.Rules.{automaton_of, WellFormed}
use Rattle.live.specs.Continued.{Continued}
use Rattle.trays.specs.Rows.{column_of}
use Rattle.trays.specs.Calls.{Call}
use Rattle.trays.specs.Claims.{rows_below}
use Rattle.trays.proofs.Rows.{up_to_same}
use Rattle.trayhistories.specs.History.{column_in, Size, board_there, width_from, bands_from, width_in, bands_in, standing, rows_from, rows_at}
use Rattle.trayhistories.specs.Claims.{tray_after}
use Rattle.faults.specs.Faulting.{Finding, refused_as, row_at, column_at, short_at, open_with, fault_of}
use Rattle.trayfaults.specs.Faults.{RowsRight, Before, column_text, Hopeful, LostWith, Faulted}
use Rattle.trayfaults.proofs.Texts.{take_up}
use Rattle.trayfaults.proofs.Searching.{column_kept, stuck_column}
use Rattle.trayfaults.proofs.Faulting.{rules, fault}

-- ---- a lost column
module _ (h : List Call) (good : WellFormed (column_in h)) (m c b i : ℕ) (lost : LostWith h m c b i) where
  not_hopeful : Hopeful h m c → ⊥
  not_hopeful x = none-some ((column_kept h good m c).1 x) (stuck_column h good m c b i lost)

  -- it is lost with one row
  one_row : (a j : ℕ) → LostWith h m c a j → (a ≡ b) × (j ≡ i)
  one_row a j x =
      let e : some (column_at c a j) ≡ some (column_at c b i) = sym (stuck_column h good m c a j x) ∙ stuck_column h good m c b i lost in
      (cc, cc)

module _ (h g : List Call) (b : ℕ) (rule : column_in g ≡ column_in h) (board : board_there g ≡ board_there h)
    (bands : (p : ℕ) → p ≤ b → standing g p ≡ standing h p) where
  rows_same : (p : ℕ) → p ≤ b → rows_at g p ≡ rows_at h p
  rows_same p l = ap₂ (λ (o : Option Size) (s : Option (List ℕ)). rows_from (width_from o) s) board (bands p l)

  -- the column up to a row of band b
  text_same : (m n c j : ℕ) → b < m → b < n → j ≤ length (rows_at h b)
      → column_text g n c (rows_below (rows_at g) b + j) ≡ column_text h m c (rows_below (rows_at h) b + j)
  text_same m n c j k l fits =
      ap (column_of c)
      (take_up (rows_at g) n b j l (subst (λ (x : ℕ). j ≤ x) (sym (ap length (rows_same b (omega arith)))) fits)
      ∙ ap₂ (λ (x y : List (List ℕ)). x ++ take j y) (up_to_same (rows_at g) (rows_at h) b (λ p q. rows_same p (omega arith))) (rows_same b (omega arith))
      ∙ sym (take_up (rows_at h) m b j k fits))

  hope_same : (v w : List ℕ) → v ≡ w → Continued (automaton_of (column_in h)) w → Continued (automaton_of (column_in g)) v
  hope_same v w e x = subst (Continued (automaton_of (column_in g))) (sym e) (subst (λ (r : Rule). Continued (automaton_of r) w) (sym rule) x)

  hope_back : (v w : List ℕ) → v ≡ w → Continued (automaton_of (column_in g)) v → Continued (automaton_of (column_in h)) w
  hope_back v w e x = subst (Continued (automaton_of (column_in h))) e (subst (λ (r : Rule). Continued (automaton_of r) v) rule x)

  -- band b stands before the first empty one in g too
  stands_too : (m n : ℕ) → Before h m → Before g n → b < m → b < n
  stands_too m n x y l =
      by_test (ltb b n)
      (λ t. ltb-true b n t)
      (λ t.
      let below : n ≤ b = ltb-false b n t in
      let same : bands_in g ≡ bands_in h = ap bands_from board in
      absurd (x.stand n (omega (arith, below, l)) (sym (bands n below) ∙ y.then_empty (omega (arith, below, l, same, x.within)))))

  no_rows : (m n c : ℕ) → column_text g n c 0 ≡ column_text h m c 0
  unfolding column_of
  no_rows m n c = refl

  lost_too : (m n c i : ℕ) → Before h m → Before g n → LostWith h m c b i → LostWith g n c b i
  lost_too m n c i x y (inl w) = inl ((λ z. w.0 (hope_back (column_text g n c 0) (column_text h m c 0) (no_rows m n c) z)), w.1, w.2)
  lost_too m n c i x y (inr w) =
      let l = stands_too m n x y w.0 in
      let here = text_same m n c i w.0 l (omega (arith, w.1)) in
      let next : column_text g n c (suc (rows_below (rows_at g) b + i)) ≡ column_text h m c (suc (rows_below (rows_at h) b + i)) =
      let e : rows_below (rows_at g) b + suc i ≡ suc (rows_below (rows_at g) b + i) = omega arith in
      let f : rows_below (rows_at h) b + suc i ≡ suc (rows_below (rows_at h) b + i) = omega arith in
      ap (column_text g n c) (sym e) ∙ text_same m n c (suc i) w.0 l w.1 ∙ ap (column_text h m c) f in
      inr (
        l,
        subst (λ (k : ℕ). i < k) (sym (ap length (rows_same b (omega arith)))) w.1,
        hope_same (column_text g n c (rows_below (rows_at g) b + i)) (column_text h m c (rows_below (rows_at h) b + i)) here w.2,
        λ z. w.3 (hope_back (column_text g n c (suc (rows_below (rows_at g) b + i))) (column_text h m c (suc (rows_below (rows_at h) b + i))) next z),
      )

  module _ (c i : ℕ) (was : Faulted h (column_at c b i)) (right : RowsRight g) where
    there : board_there g ≡ none → ⊥
    there e = was.0 (sym board ∙ e)

    good : WellFormed (column_in g)
    good = (rules g (board_there g) refl there).1

    lost : (n : ℕ) → Before g n → LostWith g n c b i
    lost n y = lost_too was.2.0 n c i was.2.1 y was.2.2.lost

    wide : c < width_in g
    wide = let e : width_in g ≡ width_in h = ap width_from board in omega (arith, e, was.2.2.column)

    abbrev Stays : Finding → Type 0
    Stays f = (d : ℕ) × (a : ℕ) × (j : ℕ) × (f ≡ column_at d a j) × (d ≤ c) × (d ≡ c → (a ≡ b) × (j ≡ i))

    stays_by : (f : Finding) → Faulted g f → Stays f
    stays_by (refused_as x) w = absurd (there w.0)
    stays_by (row_at p j) w = absurd (w.rejected (right p j w.band w.row))
    stays_by (column_at d a j) w =
        let n = w.2.0 in
        let x = w.2.2 in
        let low : d ≤ c =
        by_test (ltb c d)
        (λ t. absurd (not_hopeful g good n c b i (lost n w.2.1) (x.earlier c (ltb-true c d t))))
        (λ t. ltb-false c d t) in
        (d, a, j, refl, low, λ e. one_row g good n c b i (lost n w.2.1) a j (subst (λ (y : ℕ). LostWith g n y a j) e x.lost))
    stays_by (short_at d) w = absurd (not_hopeful g good (bands_in g) c b i (lost (bands_in g) w.2.full) (w.2.hopeful c wide))
    stays_by (open_with n) w = absurd (not_hopeful g good n c b i (lost n w.2.before) (w.2.hopeful c wide))

    pub stays : Stays (fault_of (tray_after g))
    stays = stays_by (fault_of (tray_after g)) ((fault g (fault_of (tray_after g))).0 refl)
