-- The laws of the live states and of the pruned table, over any arrays. Assumes nothing.
use mathlib.Core.Path.{◌≡◌, refl, sym, ap, ◌∙◌}
use mathlib.Core.Logic.{◌↔◌, ⊎_elim}
use mathlib.Core.Bool.{Bool, true, false, cond}
use mathlib.Core.List.{List}
use Prim.Native.Nat.{ℕ, zero, suc, ◌+◌, ◌*◌, ◌≤◌, ◌<◌, min}
use native.Mathlib.Nat.{eq-or-lt_of_le, le_of_suc-le-suc}
use native.Mathlib.Numerals.{add-one}
use native.Mathlib.Omega.{arith}
use borrow.Author.Tests.{lt-ltb, le-ltb, ltb-true, ltb-false}
use lib.Bits.{bit_or, or_zero_r}
use lib.Dec.{ltb}
use lib.ListN.{length, get_or, set, length-set}
use lib.Seq.{get_or-set_other}
use Rattle.base.proofs.Lists.{cell_of_lem, is_list_from, cell_stored}
use Rattle.base.proofs.Tests.{by_test, either_most}
use Rattle.masks.specs.Masks.{◌∈◌, single, shares}
use Rattle.masks.proofs.Laws.{no_member, or_cases, or_left, or_right, single_law}
use Rattle.delegates.specs.mirror.Classes.{follow}
use Rattle.delegates.proofs.Classes.{follow_set}
use Rattle.chunks.specs.mirror.Walks.{mask_of}
use Rattle.locating.specs.mirror.Pruning.{live_set, kept_cell, pruned}

-- ---- one state more
module _ (d : List ℕ) (q : ℕ) where
  pub live_more : get_or d q 0 < 32 → bit_or (live_set d q) (single q) ≡ live_set d (q + 1)
  unfolding live_set
  live_more l = rw (add-one, lt-ltb (get_or d q 0) 32 l)

  pub live_other : 32 ≤ get_or d q 0 → live_set d q ≡ live_set d (q + 1)
  unfolding live_set
  live_other l = rw (add-one, le-ltb (get_or d q 0) 32 l, or_zero_r)

-- ---- the members
live_of : (d : List ℕ) (n q : ℕ) → q ∈ live_set d n → (q < n) × (get_or d q 0 < 32)
unfolding live_set
live_of d zero q e = absurd (no_member q e)
live_of d (suc p) q e =
    ⊎_elim
    (λ h. let r = live_of d p q h in (omega (arith, r.0), r.1))
    (λ h. own (ltb (get_or d p 0) 32) refl h)
    (or_cases (live_set d p) (cond (ltb (get_or d p 0) 32) (single p) 0) q e)
  where
    own : (t : Bool) → ltb (get_or d p 0) 32 ≡ t → q ∈ cond t (single p) 0 → (q < suc p) × (get_or d q 0 < 32)
    own true t h =
        let s : q ≡ p = (single_law p q).0 h in
        (omega arith, rw s (ltb-true (get_or d p 0) 32 t))
    own false t h = absurd (no_member q h)

in_live : (d : List ℕ) (n q : ℕ) → q < n → get_or d q 0 < 32 → q ∈ live_set d n
unfolding live_set
in_live d zero q h e = absurd (let x = h in omega arith)
in_live d (suc p) q h e =
    ⊎_elim
    (λ s. or_right (live_set d p) (cond (ltb (get_or d p 0) 32) (single p) 0) q (rw (← s) (rw (lt-ltb (get_or d q 0) 32 e) ((single_law q q).1 refl))))
    (λ l. or_left (live_set d p) (cond (ltb (get_or d p 0) 32) (single p) 0) q (in_live d p q l e))
    (eq-or-lt_of_le (le_of_suc-le-suc h))

pub live_law : (d : List ℕ) (n q : ℕ) → q ∈ live_set d n ↔ (q < n) × (get_or d q 0 < 32)
live_law d n q = (live_of d n q, λ r. in_live d n q r.0 r.1)

-- ---- a cell, and a step
kept_min : (sets : List ℕ) (live c : ℕ) → min (kept_cell sets live c) 512 ≡ cond (shares (mask_of sets (min c 512)) live) (min c 512) 512
kept_min sets live c =
    by_test (ltb c 512)
    (λ t. let e : min c 512 ≡ c = omega (arith, ltb-true c 512 t) in rw e (inside (shares (mask_of sets c) live) (ltb-true c 512 t)))
    (λ t. let e : min c 512 ≡ 512 = omega (arith, ltb-false c 512 t) in rw (e, t))
  where
    inside : (b : Bool) → c < 512 → min (cond b c 512) 512 ≡ cond b c 512
    inside true l = omega arith
    inside false l = refl

-- the cell, by its set's mask
module _ (sets : List ℕ) (live c m : ℕ) (is : m ≡ mask_of sets c) where
  kept_by : (b : Bool) → shares m live ≡ b → cond b c 512 ≡ kept_cell sets live c
  kept_by b e = ap (λ (x : Bool). cond x c 512) (sym e ∙ ap (λ (x : ℕ). shares x live) is)

  pub cell_kept : shares m live ≡ true → c ≡ kept_cell sets live c
  cell_kept e = kept_by true e

  pub cell_dropped : shares m live ≡ false → 512 ≡ kept_cell sets live c
  cell_dropped e = kept_by false e

-- a step over the pruned table, by its cell
row_cell : (sets next : List ℕ) (live count i s : ℕ) → i < 512 → s < 16
    → follow (pruned sets next live count) i s ≡ min (cond (ltb (i * 16 + s) (count * 16)) (kept_cell sets live (get_or next (i * 16 + s) 0)) 512) 512
row_cell sets next live count i s h l =
    follow_set (pruned sets next live count) i s h
    ∙ ap (λ (x : ℕ). min x 512)
    (cell_of_lem 8192 (λ c. cond (ltb c (count * 16)) (kept_cell sets live (get_or next c 0)) 512) (i * 16 + s) 0 (omega arith))

-- it is the step over the table, to the empty set where no live state is
pub pruned_step : (sets next : List ℕ) (live count i s : ℕ) → i < 512 → i < count → s < 16
    → follow (pruned sets next live count) i s ≡ cond (shares (mask_of sets (follow next i s)) live) (follow next i s) 512
pruned_step sets next live count i s h b l =
    row_cell sets next live count i s h l
    ∙ rw (lt-ltb (i * 16 + s) (count * 16) (omega arith)) (kept_min sets live (get_or next (i * 16 + s) 0))
    ∙ ap (λ (x : ℕ). cond (shares (mask_of sets x) live) x 512) (sym (follow_set next i s h))

-- it is the kept cell itself; and to the empty set from a set without a row
kept_low : (sets : List ℕ) (live c : ℕ) → kept_cell sets live c ≤ 512
kept_low sets live c =
    by_test (ltb c 512)
    (λ t. either_most (shares (mask_of sets c) live) (omega (arith, ltb-true c 512 t)) (omega arith))
    (λ t. rw t (omega arith))

pub step_kept : (sets next : List ℕ) (live count i s : ℕ) → i < 512 → i < count → s < 16
    → kept_cell sets live (get_or next (i * 16 + s) 0) ≡ follow (pruned sets next live count) i s
step_kept sets next live count i s h b l =
    sym (row_cell sets next live count i s h l
    ∙ rw (lt-ltb (i * 16 + s) (count * 16) (omega arith)) (omega (arith, kept_low sets live (get_or next (i * 16 + s) 0))))

pub step_past : (sets next : List ℕ) (live count i s : ℕ) → i < 512 → count ≤ i → s < 16 → 512 ≡ follow (pruned sets next live count) i s
step_past sets next live count i s h b l =
    sym (row_cell sets next live count i s h l ∙ rw (le-ltb (i * 16 + s) (count * 16) (omega arith)))

-- ---- the table, cell by cell
module _ (sets next : List ℕ) (live c : ℕ) (out : List ℕ) where
  -- what holds once the cells below c are kept
  pub record Kept : Type 0 where
    pub size : length out ≡ 8192
    pub below : (p : ℕ) → p < c → get_or out p 0 ≡ kept_cell sets live (get_or next p 0)
    pub rest : (p : ℕ) → c ≤ p → p < 8192 → get_or out p 0 ≡ 512

  pub one_kept : Kept → c < 8192 → (x : ℕ) → x ≡ kept_cell sets live (get_or next c 0)
      → (length (set out c x) ≡ 8192) × ((p : ℕ) → p < c + 1 → get_or (set out c x) p 0 ≡ kept_cell sets live (get_or next p 0))
      × ((p : ℕ) → c + 1 ≤ p → p < 8192 → get_or (set out c x) p 0 ≡ 512)
  one_kept k l x e = (
    length-set out c x ∙ k.size,
    cell_stored out (λ p. kept_cell sets live (get_or next p 0)) c x (omega (arith, k.size)) e k.below,
    λ p a b. get_or-set_other out c p x 0 (λ z. absurd (omega arith)) ∙ k.rest p (omega arith) b,
  )

  pub all_kept : Kept → (count : ℕ) → c ≡ min (count * 16) 8192 → out ≡ pruned sets next live count
  all_kept k count e =
      is_list_from out 8192 (λ p. cond (ltb p (count * 16)) (kept_cell sets live (get_or next p 0)) 512) k.size
      (λ p l.
      by_test (ltb p (count * 16))
      (λ t. rw t (k.below p (omega (arith, l, e, ltb-true p (count * 16) t))))
      (λ t. rw t (k.rest p (omega (arith, e, ltb-false p (count * 16) t)) l)))
