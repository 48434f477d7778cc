-- A run over a table byte by byte, and what runs one after the other say together. Assumes nothing.
use mathlib.Core.Path.{◌≡◌, refl, sym, ap, ◌∙◌}
use mathlib.Core.Bool.{Bool, true, false, cond}
use mathlib.Core.List.{List, [], ◌∷◌}
use Prim.Native.Nat.{ℕ, ◌+◌, ◌%◌, ◌≤◌, ◌<◌, max}
use native.Mathlib.Omega.{arith}
use borrow.Author.Tests.{lt-ltb, le-ltb}
use lib.Dec.{ltb}
use lib.ListN.{length, get_or, take, drop}
use lib.Seq.{take-length}
use Rattle.base.specs.Conditions.{any_below}
use Rattle.base.specs.Totals.{greatest}
use Rattle.base.proofs.Conditions.{any_at, none_more}
use Rattle.base.proofs.Lists.{cell_of_lem}
use Rattle.base.proofs.Totals.{greatest_more}
use Rattle.masks.specs.Masks.{has}
use Rattle.delegates.proofs.Classes.{follow_empty}
use Rattle.walks.specs.mirror.Steps.{end_by}
use Rattle.walks.proofs.Steps as walks
use Rattle.chunks.specs.mirror.Walks.{step_of, mask_of, walk_end, walk_looked, runs_of}
use Rattle.locating.specs.Locating.{nowhere, stuck_after, some_left, found_by}

-- ---- one run, from the set `from` over the text w: after i bytes it is in the set `set`
stays_none : (cut : List ℕ) (i : ℕ) (w : List ℕ) → 512 ≤ i → 512 ≤ walk_end cut i w
unfolding end_by
stays_none cut i [] h = h
stays_none cut i (b ∷ w) h = stays_none cut (step_of cut i b) w (omega (arith, follow_empty cut i (b % 16) h))

module _ (cut : List ℕ) (from : ℕ) (w : List ℕ) where
  -- what holds after i bytes: they lead to `set`, and the others are left to be looked at
  pub record Ran (i set : ℕ) : Type 0 where
    pub there : set ≡ walk_end cut from (take i w)
    pub left : i + walk_looked cut set (drop i w) ≡ walk_looked cut from w

  pub not_yet : Ran 0 from
  unfolding end_by
  not_yet = record { there = refl; left = omega arith }

  module _ (i set : ℕ) (ran : Ran i set) where
    pub run_dead : (sets : List ℕ) → 512 ≤ set → (0 ≡ mask_of sets (walk_end cut from w)) × (i ≡ walk_looked cut from w)
    run_dead sets h =
        let e : walk_end cut from w ≡ walk_end cut set (drop i w) =
        walks.end_split (step_of cut) from i w ∙ ap (λ (x : ℕ). walk_end cut x (drop i w)) (sym ran.there) in (
          sym (rw (e, le-ltb (walk_end cut set (drop i w)) 512 (stays_none cut set (drop i w) h))),
          omega (arith, ran.left, walks.looked_empty (step_of cut) 512 set (drop i w) h),
        )

    pub run_next : i < length w → set < 512 → (after : ℕ) → after ≡ step_of cut set (get_or w i 0) → Ran (i + 1) after
    run_next h low after e = record {
      there = e ∙ ap (λ (x : ℕ). step_of cut x (get_or w i 0)) ran.there ∙ sym (walks.end_more (step_of cut) from i w h);
      left = rw e (omega (arith, ran.left, walks.looked_next (step_of cut) 512 set i w h low));
    }

    pub run_whole : i ≡ length w → (set ≡ walk_end cut from w) × (i ≡ walk_looked cut from w)
    run_whole e = (
      ran.there ∙ ap (walk_end cut from) (rw (e, take-length)),
      omega (arith, ran.left, walks.looked_left (step_of cut) 512 set i w (omega arith)),
    )

-- ---- the runs from the states of the mask `run`, one after the other
module _ (sets cut singles : List ℕ) (run : ℕ) (t : List ℕ) where
  -- what holds once the runs of the states below q are over: none is left, and so many bytes were looked up
  pub record Over (q looked : ℕ) : Type 0 where
    pub none : any_below (λ p. ltb 0 (get_or (runs_of sets cut singles run t).ends p 0)) q ≡ false
    pub most : looked ≡ greatest (λ p. cond (has run p) (walk_looked cut (get_or singles p 0) t) 0) q

  end_at_lem : (q : ℕ) → q < 32 → get_or (runs_of sets cut singles run t).ends q 0 ≡ cond (has run q) (mask_of sets (walk_end cut (get_or singles q 0) t)) 0
  end_at_lem q l = cell_of_lem 32 (λ p. cond (has run p) (mask_of sets (walk_end cut (get_or singles p 0) t)) 0) q 0 l

  module _ (q : ℕ) (l : q < 32) where
    pub one_left : has run q ≡ true → (mask : ℕ) → mask ≡ mask_of sets (walk_end cut (get_or singles q 0) t) → 0 < mask → nowhere ≡ found_by (runs_of sets cut singles run t)
    one_left in-run mask is some =
        let e : get_or (runs_of sets cut singles run t).ends q 0 ≡ mask = end_at_lem q l ∙ rw in-run (sym is) in
        let left : some_left (runs_of sets cut singles run t).ends ≡ true = any_at _ 32 q l (rw e (lt-ltb 0 mask some)) in
        sym (ap (λ (b : Bool). cond b nowhere (stuck_after (runs_of sets cut singles run t).looked)) left)

    over_by : (looked : ℕ) → Over q looked → (mask n : ℕ) → get_or (runs_of sets cut singles run t).ends q 0 ≡ mask → mask ≤ 0
        → n ≡ cond (has run q) (walk_looked cut (get_or singles q 0) t) 0 → Over (q + 1) (max looked n)
    over_by looked o mask n e z is = record {
      none = none_more _ q o.none (rw e (le-ltb 0 mask z));
      most = rw (o.most, is) (sym (greatest_more (λ p. cond (has run p) (walk_looked cut (get_or singles p 0) t) 0) q));
    }

    pub over_run : (looked : ℕ) → Over q looked → has run q ≡ true → (mask n : ℕ) → mask ≡ mask_of sets (walk_end cut (get_or singles q 0) t) → mask ≤ 0
        → n ≡ walk_looked cut (get_or singles q 0) t → Over (q + 1) (max looked n)
    over_run looked o in-run mask n is z looks = over_by looked o mask n (end_at_lem q l ∙ rw in-run (sym is)) z (rw in-run looks)

    pub over_other : (looked : ℕ) → Over q looked → has run q ≡ false → Over (q + 1) looked
    over_other looked o out =
        let same : max looked 0 ≡ looked = omega arith in
        rw (← same) (over_by looked o 0 0 (end_at_lem q l ∙ rw out) (omega arith) (rw out))

  pub all_over : (looked : ℕ) → Over 32 looked → stuck_after looked ≡ found_by (runs_of sets cut singles run t)
  all_over looked o =
      ap stuck_after o.most
      ∙ sym (ap (λ (b : Bool). cond b nowhere (stuck_after (runs_of sets cut singles run t).looked)) o.none)
