-- Eight runs that go as far as the first of them lives. Assumes nothing.
--
--   On t w n from r        a run from the row offset `from` stands at r after n bytes
--   Leads t w n end from r  the same of the first run, which leads: it is alive before byte `end`,
--                          and that is the last byte or has led it to the empty set; what it looks
--                          up is n bytes and what it looks up from there
--   in_column              a row offset is within the table from a column on
--   eight                  eight stores, one for each lane
use mathlib.Core.Path.{◌≡◌, refl, sym, ap, ◌∙◌}
use mathlib.Core.List.{List, [], ◌∷◌, append-nil}
use Prim.Native.Nat.{ℕ, ◌+◌, ◌-◌, ◌%◌, ◌≤◌, ◌<◌}
use native.Mathlib.Omega.{arith}
use borrow.Author.Tests.{ltb-true, ltb-false}
use lib.Dec.{ltb}
use lib.ListN.{length, get_or, take, drop, length-take, length-drop, drop_of_length-le}
use lib.Seq.{get_or-take, get_or-drop, sets, sets-eq}
use Rattle.base.specs.Lists.{list_from}
use Rattle.base.proofs.Tests.{by_test}
use Rattle.walks.specs.mirror.Steps.{end_by}
use Rattle.walks.proofs.Steps.{end_more, looked_next, looked_left, looked_empty}
use Rattle.lanes.specs.mirror.Offsets.{hop_of, row_end, row_looked, RowTable}
use Rattle.lanes.proofs.Offsets.{hop_low}

-- the table from the column of the byte b on
abbrev pub column : List ℕ → ℕ → List ℕ
column t b = take (length t - b % 16) (drop (b % 16) t)

pub record On (t w : List ℕ) (n from r : ℕ) : Type 0 where
  pub low : r ≤ 8192
  pub is : r ≡ row_end t (take n w) from

pub record Leads (t w : List ℕ) (n end from r : ℕ) : Type 0 where
  pub within : end ≤ length w
  pub upto : n ≤ end
  pub lives : n < end → r < 8192
  pub ends : end < length w → 8192 ≤ r
  pub looks : n + row_looked t (drop n w) r ≡ row_looked t w from

module _ (t : List ℕ) (table : RowTable t) (w : List ℕ) where
  -- a step in the column is a step
  hopped : (b r s : ℕ) → r ≤ 8192 → s ≡ get_or (column t b) r 0 → s ≡ hop_of t r b
  hopped b r s low e =
      let l : r < length t - b % 16 = omega (arith, table.size) in
      e ∙ get_or-take (length t - b % 16) (drop (b % 16) t) r 0 l ∙ get_or-drop (b % 16) t r 0

  -- each row offset has its place in the column
  pub in_column : (b r : ℕ) → r ≤ 8192 → r < length (column t b)
  in_column b r low = simp (length-take, length-drop) (omega (arith, table.size))

  pub on_start : {from : ℕ} → from ≤ 8192 → On t w 0 from from
  unfolding end_by
  on_start h = record { low = h; is = refl }

  pub on_more : {n from r s : ℕ} → n < length w → On t w n from r → s ≡ get_or (column t (get_or w n 0)) r 0 → On t w (n + 1) from s
  on_more {n} {from} {r} {s} h on e =
      let b = get_or w n 0 in
      let q : s ≡ hop_of t r b = hopped b r s on.low e in
      record { low = rw q (hop_low t table r b); is = q ∙ rw on.is (sym (end_more (hop_of t) from n w h)) }

  pub leads_start : {end from : ℕ} → end ≤ length w → (0 < end → from < 8192) → (end < length w → 8192 ≤ from) → Leads t w 0 end from from
  leads_start a b d = record { within = a; upto = omega arith; lives = b; ends = d; looks = omega arith }

  module _ {n end from r s : ℕ} (h : n < end) (on : On t w n from r) (lead : Leads t w n end from r) (e : s ≡ get_or (column t (get_or w n 0)) r 0) where
    further : n + 1 + row_looked t (drop (n + 1) w) s ≡ row_looked t w from
    further =
        let next = looked_next (hop_of t) 8192 r n w (omega (arith, lead.within)) (lead.lives h) in
        let same = ap (row_looked t (drop (n + 1) w)) (hopped (get_or w n 0) r s on.low e) in
        omega (arith, lead.looks)

    pub leads_on : s < 8192 → Leads t w (n + 1) end from s
    leads_on l = record { within = lead.within; upto = omega arith; lives = λ x. l; ends = λ x. absurd (omega (arith, lead.ends x, lead.lives h)); looks = further }

    pub leads_off : 8192 ≤ s → Leads t w (n + 1) (n + 1) from s
    leads_off l = record { within = omega (arith, lead.within); upto = omega arith; lives = λ x. absurd (omega arith); ends = λ x. l; looks = further }

  pub leads_end : {n end from r : ℕ} → end ≤ n → Leads t w n end from r → n ≡ row_looked t w from
  leads_end {n} {end} {from} {r} h lead =
      by_test (ltb end (length w))
      (λ b. omega (arith, lead.looks, looked_empty (hop_of t) 8192 r (drop n w) (lead.ends (ltb-true end (length w) b))))
      (λ b. omega (arith, lead.looks, looked_left (hop_of t) 8192 r n w (omega (arith, ltb-false end (length w) b))))

sets_all : (vs l : List ℕ) → length vs ≡ length l → sets l 0 vs ≡ vs
sets_all vs l e =
    let n : length l ≤ 0 + length vs = omega arith in
    sets-eq vs l 0 (omega arith) ∙ rw (drop_of_length-le l n) (append-nil vs)

pub eight : (g : ℕ → ℕ) (l : List ℕ) → length l ≡ 8 → {v0 v1 v2 v3 v4 v5 v6 v7 : ℕ}
    → v0 ≡ g 0 → v1 ≡ g 1 → v2 ≡ g 2 → v3 ≡ g 3 → v4 ≡ g 4 → v5 ≡ g 5 → v6 ≡ g 6 → v7 ≡ g 7
    → sets l 0 (v0 ∷ v1 ∷ v2 ∷ v3 ∷ v4 ∷ v5 ∷ v6 ∷ v7 ∷ []) ≡ list_from 0 8 g
unfolding list_from
eight g l size {v0} {v1} {v2} {v3} {v4} {v5} {v6} {v7} e0 e1 e2 e3 e4 e5 e6 e7 =
    sets_all (v0 ∷ v1 ∷ v2 ∷ v3 ∷ v4 ∷ v5 ∷ v6 ∷ v7 ∷ []) l (sym size)
    ∙ rw (e0, e1, e2, e3, e4, e5, e6, e7)
