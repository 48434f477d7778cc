-- Eight runs of which the first looks nothing up, and its lane is lent: `Behind` is what holds when
-- n bytes w are gone over. Assumes a table of row offsets.
--
-- The route: each of the last seven is on its run. When one of them leads on from byte n, it is
-- alive there, so all that it looks up is n bytes and more: n is never more than what is to be
-- looked up. In the end none looks anything up any more, so n is not less either.
use mathlib.Core.Path.{◌≡◌, refl, sym, ap, ◌∙◌}
use mathlib.Core.List.{List, ◌++◌}
use Prim.Native.Nat.{ℕ, ◌+◌, ◌-◌, ◌≤◌, ◌<◌}
use native.Mathlib.Omega.{arith}
use borrow.Author.Tests.{eqb-true, eqb-false}
use lib.Dec.{eqb}
use lib.ListN.{length, get_or, take, drop, set, length-set, length-drop, length-take, take-append-drop}
use lib.Seq.{take_all, take-add, get_or-set_same, get_or-set_other}
use Rattle.base.proofs.Lists.{length_list_from, is_list_from, each_stored}
use Rattle.base.proofs.Tests.{by_test}
use Rattle.base.proofs.Totals.{greatest_most, term_greatest}
use Rattle.walks.specs.mirror.Steps.{end_by}
use Rattle.walks.proofs.Steps.{end_append, end_split, looked_most, looked_empty, looked_left, looked_some, looked_take, looked_append, looked_from, end_still}
use Rattle.lanes.specs.mirror.Offsets.{hop_of, row_end, row_looked, rows_end, rows_looked, RowTable, Rows, Living}
use Rattle.lanes.proofs.Offsets.{hop_low, hop_stays, rows_low}
use Rattle.lanes.proofs.Rows.{rows_at}
use Rattle.lanes.proofs.Rows as rows

-- the part of a slice from n on
pub rest-is : (l : List ℕ) (n : ℕ) → take (length l - n) (drop n l) ≡ drop n l
rest-is l n = take_all (length l - n) (drop n l) (omega (arith, length-drop n l))

pub record Behind (t w from lane : List ℕ) (n : ℕ) : Type 0 where
  pub within : n ≤ length w
  pub size : length lane ≡ 8
  pub low : Rows lane
  pub on : (k : ℕ) → 1 ≤ k → k < 8 → get_or lane k 0 ≡ row_end t (take n w) (get_or from k 0)
  pub far : n ≤ rows_looked t w from 8

module _ (t : List ℕ) (table : RowTable t) (w from : List ℕ) (low : Rows from) where
  pub behind_start : length from ≡ 8 → Behind t w from from 0
  unfolding end_by
  behind_start size = record { within = omega arith; size = size; low = low; on = λ k a b. refl; far = omega arith }

  -- what run k looks up is at most what any looks up
  most : (k : ℕ) → k < 8 → row_looked t w (get_or from k 0) ≤ rows_looked t w from 8
  most k h = term_greatest (λ q. row_looked t w (get_or from q 0)) 8 k h

  module _ (lane : List ℕ) (n : ℕ) (behind : Behind t w from lane n) where
    -- ---- the run k leads on, to the lanes `next` after r bytes more
    module _ (h : n < length w) (k : ℕ) (found : Living lane k) (some : k < 8) (r : ℕ) (next : List ℕ)
        (led : r ≡ row_looked t (drop n w) (get_or (set lane 0 (get_or lane k 0)) 0 0))
        (ends : next ≡ rows_end t (take r (drop n w)) (set lane 0 (get_or lane k 0)) 8) where
      abbrev lent : List ℕ
      lent = set lane 0 (get_or lane k 0)

      leads : r ≡ row_looked t (drop n w) (get_or lane k 0)
      leads = led ∙ ap (row_looked t (drop n w)) (get_or-set_same lane 0 (get_or lane k 0) 0 (omega (arith, behind.size)))

      pub goes_on : 0 < r
      goes_on = omega (arith, leads, looked_some (hop_of t) 8192 (get_or lane k 0) (drop n w) (found.lives some) (omega (arith, length-drop n w)))

      further : n + r ≤ rows_looked t w from 8
      further =
          let here = behind.on k found.later some in
          let alive : row_end t (take n w) (get_or from k 0) < 8192 = rw here at (found.lives some) in
          let same = ap (row_looked t (drop n w)) here in
          omega (
            arith,
            leads,
            looked_from (hop_of t) 8192 (hop_low t table) (hop_stays t table) (get_or from k 0) n w (low k) behind.within alive,
            most k some,
          )

      moved : (q : ℕ) → 1 ≤ q → q < 8 → get_or next q 0 ≡ row_end t (take (n + r) w) (get_or from q 0)
      moved q a b =
          let other : get_or lent q 0 ≡ row_end t (take n w) (get_or from q 0) = get_or-set_other lane 0 q (get_or lane k 0) 0 (λ z. omega arith) ∙ behind.on q a b in
          rw (ends, rows_at t (take r (drop n w)) lent 8 q b, other, take-add n r w)
          (sym (end_append (hop_of t) (get_or from q 0) (take n w) (take r (drop n w))))

      pub behind_more : Behind t w from next (n + r)
      behind_more = record {
        within = omega (arith, leads, looked_most (hop_of t) 8192 (get_or lane k 0) (drop n w), length-drop n w);
        size = ap length ends ∙ length_list_from 0 8 (λ q. row_end t (take r (drop n w)) (get_or lent q 0));
        low = rw ends (rows_low t table (take r (drop n w)) lent 8 (each_stored (λ b x. x ≤ 8192) lane 0 (get_or lane k 0) (omega (arith, behind.size)) behind.low (behind.low k)));
        on = moved;
        far = further;
      }

    -- ---- none looks anything up any more
    pub all_passed : length w ≤ n → (k : ℕ) → 1 ≤ k → k < 8 → row_looked t (drop n w) (get_or lane k 0) ≡ 0
    all_passed h k a b = looked_left (hop_of t) 8192 (get_or lane k 0) n w h

    pub all_dead_lem : (k : ℕ) → Living lane k → k ≡ 8 → (q : ℕ) → 1 ≤ q → q < 8 → row_looked t (drop n w) (get_or lane q 0) ≡ 0
    all_dead_lem k found e q a b = looked_empty (hop_of t) 8192 (get_or lane q 0) (drop n w) (found.none e q a b)

    module _ (first : row_looked t w (get_or from 0 0) ≡ 0) (last : (k : ℕ) → 1 ≤ k → k < 8 → row_looked t (drop n w) (get_or lane k 0) ≡ 0) where
      -- from 1 on a run stands where it will end
      stays : (k : ℕ) → 1 ≤ k → k < 8 → get_or lane k 0 ≡ row_end t w (get_or from k 0)
      stays k a b =
          sym (end_still (hop_of t) 8192 (hop_low t table) (hop_stays t table) (get_or lane k 0) (drop n w) (behind.low k) (last k a b))
          ∙ ap (row_end t (drop n w)) (behind.on k a b)
          ∙ sym (end_split (hop_of t) (get_or from k 0) n w)

      at : (k : ℕ) → k < 8 → get_or (set lane 0 (get_or from 0 0)) k 0 ≡ row_end t w (get_or from k 0)
      at k h =
          by_test (eqb k 0)
          (λ b.
          let e = eqb-true k 0 b in
          rw (e, get_or-set_same lane 0 (get_or from 0 0) 0 (omega (arith, behind.size)))
          (sym (end_still (hop_of t) 8192 (hop_low t table) (hop_stays t table) (get_or from 0 0) w (low 0) first)))
          (λ b.
          let ne = eqb-false k 0 b in
          get_or-set_other lane 0 k (get_or from 0 0) 0 ne ∙ stays k (omega arith) h)

      pub behind_ends : set lane 0 (get_or from 0 0) ≡ rows_end t w from 8
      behind_ends =
          is_list_from (set lane 0 (get_or from 0 0)) 8 (λ k. row_end t w (get_or from k 0)) (length-set lane 0 (get_or from 0 0) ∙ behind.size) at

      not_more : (k : ℕ) → k < 8 → row_looked t w (get_or from k 0) ≤ n
      not_more k h =
          by_test (eqb k 0)
          (λ b. let e = eqb-true k 0 b in rw e (omega arith))
          (λ b.
          let ne = eqb-false k 0 b in
          let parts : row_looked t (take n w ++ drop n w) (get_or from k 0) ≡ row_looked t (take n w) (get_or from k 0) + row_looked t (drop n w) (row_end t (take n w) (get_or from k 0)) =
          looked_append (hop_of t) 8192 (hop_low t table) (hop_stays t table) (get_or from k 0) (take n w) (drop n w) (low k) in
          let whole = ap (λ (x : List ℕ). row_looked t x (get_or from k 0)) (take-append-drop n w) in
          let same = ap (row_looked t (drop n w)) (behind.on k (omega arith) h) in
          omega (arith, last k (omega arith) h, looked_most (hop_of t) 8192 (get_or from k 0) (take n w), length-take n w))

      pub behind_looked : n ≡ rows_looked t w from 8
      behind_looked = omega (arith, behind.far, greatest_most (λ k. row_looked t w (get_or from k 0)) n 8 not_more)

  -- ---- after the first has led for r bytes
  module _ (r : ℕ) (lane : List ℕ) (led : r ≡ row_looked t w (get_or from 0 0)) (ends : lane ≡ rows_end t (take r w) from 8) where
    pub led_low : Rows lane
    led_low = rw ends (rows_low t table (take r w) from 8 low)

    pub led_size : length lane ≡ 8
    led_size = ap length ends ∙ length_list_from 0 8 (λ k. row_end t (take r w) (get_or from k 0))

    first_part : row_looked t (take r w) (get_or from 0 0) ≡ r
    first_part = rw led (looked_take (hop_of t) 8192 (get_or from 0 0) w)

    pub led_first : row_looked t (drop r w) (get_or lane 0 0) ≡ 0
    led_first =
        let parts : row_looked t (take r w ++ drop r w) (get_or from 0 0) ≡ row_looked t (take r w) (get_or from 0 0) + row_looked t (drop r w) (row_end t (take r w) (get_or from 0 0)) =
        looked_append (hop_of t) 8192 (hop_low t table) (hop_stays t table) (get_or from 0 0) (take r w) (drop r w) (low 0) in
        let whole = ap (λ (x : List ℕ). row_looked t x (get_or from 0 0)) (take-append-drop r w) in
        let here = ap (row_looked t (drop r w)) (ap (λ (l : List ℕ). get_or l 0 0) ends ∙ rows_at t (take r w) from 8 0 (omega arith)) in
        omega (arith, first_part)

    pub led_ends : (next : List ℕ) → next ≡ rows_end t (drop r w) lane 8 → next ≡ rows_end t w from 8
    led_ends next e = e ∙ rw ends (rw (take-append-drop r w) at (sym (rows.ends_append t table (take r w) (drop r w) from 8)))

    pub led_looked : (n : ℕ) → n ≡ rows_looked t (drop r w) lane 8 → r + n ≡ rows_looked t w from 8
    led_looked n e =
        let parts = rows.looked_append t table (take r w) (drop r w) from 8 low in
        let whole = ap (λ (x : List ℕ). rows_looked t x from 8) (take-append-drop r w) in
        let same = ap (λ (l : List ℕ). rows_looked t (drop r w) l 8) ends in
        let top : rows_looked t (take r w) from 8 ≤ r = greatest_most (λ k. row_looked t (take r w) (get_or from k 0)) r 8 (λ k h. omega (arith, looked_most (hop_of t) 8192 (get_or from k 0) (take r w), length-take r w)) in
        let low : row_looked t (take r w) (get_or from 0 0) ≤ rows_looked t (take r w) from 8 = term_greatest (λ k. row_looked t (take r w) (get_or from k 0)) 8 0 (omega arith) in
        omega (arith, first_part)
