-- Lanes that walk eight at a time: `Walking` is what holds when the lanes before n have walked.
-- Assumes a table of row offsets.
use mathlib.Core.Path.{◌≡◌, refl, sym, ap, ap₂, ◌∙◌}
use mathlib.Core.List.{List, ◌++◌}
use Prim.Native.Nat.{ℕ, ◌+◌, ◌-◌, ◌%◌, ◌≤◌, ◌<◌, max}
use native.Mathlib.Omega.{arith}
use borrow.Author.Tests.{ltb-true, ltb-false}
use lib.Dec.{ltb}
use lib.ListN.{length, get_or, take, drop, length-take, get_or-eq_default}
use lib.Seq.{get_or-take, get_or-drop}
use Rattle.base.specs.Totals.{greatest}
use Rattle.base.proofs.Lists.{length_list_from, is_list_from, before_part, in_part, after_part, length_replaced}
use Rattle.base.proofs.Tests.{by_test}
use Rattle.base.proofs.Totals.{greatest_same, greatest_split, greatest_rest}
use Rattle.walks.proofs.Steps.{end_empty, looked_empty}
use Rattle.lanes.specs.mirror.Offsets.{hop_of, row_end, row_looked, rows_end, rows_looked, RowTable, Rows}
use Rattle.lanes.proofs.Offsets.{hop_low, hop_stays}
use Rattle.lanes.proofs.Rows.{rows_at}

pub record Walking (t w from lane : List ℕ) (looked n : ℕ) : Type 0 where
  pub eights : (n ≤ 40) × (n % 8 ≡ 0)
  pub size : length lane ≡ 40
  pub walked : (k : ℕ) → k < n → get_or lane k 0 ≡ row_end t w (get_or from k 0)
  pub left : (k : ℕ) → n ≤ k → get_or lane k 0 ≡ get_or from k 0
  pub looks : looked ≡ rows_looked t w from n

pub walking_start : (t w from : List ℕ) → length from ≡ 40 → Walking t w from from 0 0
unfolding greatest
walking_start t w from size =
    record { eights = (omega arith, omega arith); size = size; walked = λ k h. absurd (omega arith); left = λ k h. refl; looks = refl }

module _ (t w from lane : List ℕ) (looked n : ℕ) (walking : Walking t w from lane looked n) where
  -- the next m lanes
  next_at_lem : (m k : ℕ) → k < m → get_or (take m (drop n lane)) k 0 ≡ get_or from (n + k) 0
  next_at_lem m k h = get_or-take m (drop n lane) k 0 h ∙ get_or-drop n lane k 0 ∙ walking.left (n + k) (omega arith)

  pub walking_low : Rows from → (m : ℕ) → Rows (take m (drop n lane))
  walking_low low m k =
      by_test (ltb k m)
      (λ b. rw (next_at_lem m k (ltb-true k m b)) (low (n + k)))
      (λ b.
      let past = ltb-false k m b in
      omega (arith, get_or-eq_default (take m (drop n lane)) 0 {n = k} (omega (arith, length-take m (drop n lane)))))

  module _ (fits : n + 8 ≤ 40) (r : ℕ) (eight : List ℕ) (more : ℕ)
      (looks : r ≡ rows_looked t w (take 8 (drop n lane)) 8) (ends : eight ≡ rows_end t w (take 8 (drop n lane)) 8) (greater : more ≡ max looked r) where
    eight_size : length eight ≡ 8
    eight_size = ap length ends ∙ length_list_from 0 8 (λ k. row_end t w (get_or (take 8 (drop n lane)) k 0))

    within : n + 8 ≤ length lane
    within = omega (arith, walking.size)

    eight_at : (k : ℕ) → k < 8 → get_or eight k 0 ≡ row_end t w (get_or from (n + k) 0)
    eight_at k h = rw ends (rows_at t w (take 8 (drop n lane)) 8 k h ∙ ap (row_end t w) (next_at_lem 8 k h))

    abbrev after : List ℕ
    after = take n lane ++ (eight ++ drop 8 (drop n lane))

    walks : (k : ℕ) → k < n + 8 → get_or after k 0 ≡ row_end t w (get_or from k 0)
    walks k h =
        by_test (ltb k n)
        (λ b. let l = ltb-true k n b in before_part lane eight n 8 within eight_size k l ∙ walking.walked k l)
        (λ b.
        let l = ltb-false k n b in
        let e : n + (k - n) ≡ k = omega arith in
        ap (λ (x : ℕ). get_or after x 0) (sym e)
        ∙ in_part lane eight n 8 within eight_size (k - n) (omega arith)
        ∙ eight_at (k - n) (omega arith)
        ∙ ap (λ (x : ℕ). row_end t w (get_or from x 0)) e)

    pub walking_more : Walking t w from after more (n + 8)
    walking_more = record {
      eights = (fits, omega (arith, walking.eights.1));
      size = length_replaced lane eight n 8 within eight_size ∙ walking.size;
      walked = walks;
      left = λ k h. after_part lane eight n 8 within eight_size k h ∙ walking.left k (omega arith);
      looks =
          greater
          ∙ ap₂ max walking.looks
          (looks ∙ greatest_same (λ k. row_looked t w (get_or (take 8 (drop n lane)) k 0)) (λ k. row_looked t w (get_or from (n + k) 0)) 8 (λ k h. ap (row_looked t w) (next_at_lem 8 k h)))
          ∙ sym (greatest_split (λ k. row_looked t w (get_or from k 0)) n 8);
    }

-- ---- the lanes from n on are empty
module _ (t : List ℕ) (table : RowTable t) (w from lane : List ℕ) (looked n : ℕ) (walking : Walking t w from lane looked n) (rest : (k : ℕ) → n ≤ k → k < 40 → get_or from k 0 ≡ 8192) where
  pub walking_ends : lane ≡ rows_end t w from 40
  walking_ends =
      is_list_from lane 40 (λ k. row_end t w (get_or from k 0)) walking.size
      (λ k h.
      by_test (ltb k n)
      (λ b. walking.walked k (ltb-true k n b))
      (λ b.
      let past = ltb-false k n b in
      let dead = rest k past h in
      walking.left k past ∙ dead ∙ rw dead (sym (end_empty (hop_of t) 8192 (hop_low t table) (hop_stays t table) w))))

  pub walking_looked : looked ≡ rows_looked t w from 40
  walking_looked =
      let e : 40 - n + n ≡ 40 = omega (arith, walking.eights.0) in
      walking.looks
      ∙ sym (greatest_rest (λ k. row_looked t w (get_or from k 0)) (40 - n) n
      (λ k a b. rw (rest k a (omega arith)) (looked_empty (hop_of t) 8192 8192 w (omega arith))))
      ∙ ap (rows_looked t w from) e
