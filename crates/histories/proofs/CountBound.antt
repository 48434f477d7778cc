-- The summed count is bounded after every list of calls, and the former conditions of a delivery
-- change no answer, as specs/CountBound.antt says. Assumes nothing.
--
-- A chunk counts at most 32 transitions for each of its 65,536 bytes at most, and a board has at
-- most 64 places. A delivery that can be accepted finds its place empty, so that its chunk's count
-- is one of 64 still.
use mathlib.Core.Path.{◌≡◌, refl, sym, ap, ◌∙◌}
use mathlib.Core.Bool.{Bool, true, false, cond, ◌&&◌, and-eq-true_iff}
use mathlib.Core.List.{List, [], ◌∷◌, ◌++◌}
use mathlib.Core.Option.{Option, none, some}
use Prim.Native.Nat.{ℕ, ◌*◌, ◌≤◌, ◌<◌}
use native.Mathlib.Omega.{arith}
use lib.Dec.{eqb, ltb}
use lib.ListN.{length, get_or}
use borrow.Author.Tests.{le-ltb, eq-eqb}
use Rattle.base.specs.Conditions.{Condition, on, first_of}
use Rattle.base.specs.Options.{is_none}
use Rattle.base.proofs.Conditions.{none_law, outside_law}
use Rattle.base.proofs.Options.{is-none}
use Rattle.base.proofs.Tests.{by_test, zero_one, either_most}
use Rattle.base.proofs.Totals.{total_most, total_but_one, total_same}
use Rattle.masks.specs.Masks.{single, has}
use Rattle.marks.specs.Marks.{text_of}
use Rattle.marks.proofs.Claims as marks
use Rattle.automaton.specs.declared.Rule.{Rule}
use Rattle.chunks.specs.Chunks.{counted, chunk_count}
use Rattle.chunks.proofs.Claims as chunks
use Rattle.board.specs.Boards.{places_of, summed_count}
use Rattle.calls.specs.Replies.{delivered}
use Rattle.calls.specs.Calls.{Call, installs, loads, opens, delivers, withdraws, asks_verdict, install_number, load_number, open_conditions, deliver_conditions}
use Rattle.calls.specs.mirror.Steps.{runs_at}
use Rattle.base.proofs.Conditions.{or_else, first_append}
use Rattle.histories.specs.History.{rule_there, rule_from, rule_in, open_number, places_in, run_at, count_of, looked_of, withdraw_check, not_greater, last_revision, standing, count_at, deliver_number, summed_in, reply_by}
use Rattle.histories.specs.Claims.{judge_after}
use Rattle.histories.specs.CountBound.{sum_but, sum_in_with, former_number, sum_with, CountBound}
use Rattle.histories.proofs.Agreement.{run_count}
use Rattle.histories.proofs.Numbers.{places_same, summed_same}
use Rattle.histories.proofs.Steps.{by_run}
use Rattle.histories.proofs.Conditions.{accepted_exactly}
use Rattle.histories.proofs.EveryList.{good}

-- ---- what the text of a chunk counts
chunk_most : (ts : List ℕ) (run : ℕ) (w : List ℕ) → chunk_count ts run (text_of w) ≤ 32 * length w
chunk_most ts run w =
    total_most (λ q. cond (has run q) (counted ts (single q) (text_of w)) 0) (length w) 32 (λ q _. one (has run q) q)
  where
    one : (t : Bool) (q : ℕ) → cond t (counted ts (single q) (text_of w)) 0 ≤ length w
    one true q = omega (arith, (chunks.claims).counted_most ts (single q) (text_of w), (marks.claims).no_longer w)
    one false q = omega arith

-- ---- a delivery that can be accepted
module _ (h : List Call) (p v : ℕ) (w : List ℕ) (e : deliver_number h p v w ≡ none) where
  passes : (p < places_in h) × (length w ≤ 65536)
  passes =
      let x = ((accepted_exactly h).delivery p v w (looked_of (rule_in h) p w)).0 (ap (λ (o : Option ℕ). reply_by o (delivered (looked_of (rule_in h) p w))) e) in
      (x.1, x.2)

-- ---- a standing chunk has at most 65,536 bytes
kept : (t : Bool) (o : Option (List ℕ)) (w : List ℕ) → cond t none o ≡ some w → o ≡ some w
kept true o w e = zero_one cc
kept false o w e = e

pub standing_short : (h : List Call) (p : ℕ) (w : List ℕ) → standing h p ≡ some w → length w ≤ 65536
unfolding standing
standing_short [] p w e = zero_one cc
standing_short (installs r ∷ h) p w e = standing_short h p w (kept (is_none (install_number r)) (standing h p) w e)
standing_short (loads f ∷ h) p w e = standing_short h p w (kept (is_none (load_number f)) (standing h p) w e)
standing_short (opens n ∷ h) p w e = standing_short h p w (kept (is_none (open_number h n)) (standing h p) w e)
standing_short (delivers q v x ∷ h) p w e =
    by_test (eqb q p && is_none (deliver_number h q v x))
    (λ t.
    let same : some x ≡ some w = rw t at e in
    let is : x ≡ w = cc in
    rw (sym is)
    (passes h q v x ((is-none (deliver_number h q v x)).0 ((and-eq-true_iff (eqb q p) (is_none (deliver_number h q v x))).0 t).1)).1)
    (λ t. standing_short h p w (rw t at e))
standing_short (withdraws q ∷ h) p w e =
    standing_short h p w (kept (eqb q p && is_none (withdraw_check (places_in h) (standing h q) q)) (standing h p) w e)
standing_short (asks_verdict ∷ h) p w e = standing_short h p w e

-- and counts at most 32 times as many
counted_few : (r : Rule) (p : ℕ) (o : Option (List ℕ)) → ((w : List ℕ) → o ≡ some w → length w ≤ 65536) → count_of r p o ≤ 2097152
counted_few r p none short = omega arith
counted_few r p (some w) short = omega (arith, chunk_most r.targets (run_at r p) w, short w refl)

-- ---- a board has at most 64 places
places_few : (h : List Call) → places_in h ≤ 64
unfolding places_in
places_few [] = omega arith
places_few (installs r ∷ h) = by_test (is_none (install_number r)) (λ t. rw t (omega arith)) (λ t. rw t (places_few h))
places_few (loads f ∷ h) = by_test (is_none (load_number f)) (λ t. rw t (omega arith)) (λ t. rw t (places_few h))
places_few (opens n ∷ h) =
    by_test (is_none (open_number h n))
    (λ t.
    let x = (none_law (open_conditions (is_none (rule_there h)) n)).0 ((is-none (open_number h n)).0 t) in
    rw t ((outside_law 1 64 n).0 x.1.0).1)
    (λ t. rw t (places_few h))
places_few (delivers p v w ∷ h) = places_few h
places_few (withdraws p ∷ h) = places_few h
places_few (asks_verdict ∷ h) = places_few h

-- ---- the sum
module _ (h : List Call) where
  few_at : (p : ℕ) → p < places_in h → count_of (rule_in h) p (standing h p) ≤ 2097152
  few_at p _ = counted_few (rule_in h) p (standing h p) (standing_short h p)

  most : summed_in h ≤ 134217728
  most = omega (arith, places_few h, total_most (λ p. count_of (rule_in h) p (standing h p)) 2097152 (places_in h) few_at)

  module _ (p v : ℕ) (w : List ℕ) (e : deliver_number h p v w ≡ none) where
    most_with : sum_in_with h p w ≤ 134217728
    most_with =
        let x = passes h p v w e in
        omega (
          arith,
          places_few h,
          total_but_one (λ i. cond (eqb i p) 0 (count_at h i)) 2097152 (places_in h) p x.0
              (rw (eq-eqb p p refl))
              (λ i l. either_most (eqb i p) (omega arith) (few_at i l)),
          chunk_most (rule_in h).targets (run_at (rule_in h) p) w,
          x.1,
        )

-- ---- of the state
module _ (h : List Call) where
  held_sum : summed_count (judge_after h).board ≡ summed_in h
  held_sum = summed_same (rule_there h) (places_in h) (standing h) (last_revision h) (judge_after h) (good h)

  held_most : summed_count (judge_after h).board ≤ 134217728
  held_most = omega (arith, held_sum, most h)

  -- the sum of the counts that the other places hold
  held_others : (p : ℕ) → sum_but (λ i. get_or (judge_after h).board.counts i 0) p (places_of (judge_after h).board) ≡ sum_but (count_at h) p (places_in h)
  held_others p =
      let g = good h in
      let j = judge_after h in
      ap (sum_but (λ i. get_or j.board.counts i 0) p) (places_same (rule_there h) (places_in h) (standing h) (last_revision h) j g)
      ∙ total_same (λ i. cond (eqb i p) 0 (get_or j.board.counts i 0)) (λ i. cond (eqb i p) 0 (count_at h i)) (places_in h)
      (λ i l. ap (λ (x : ℕ). cond (eqb i p) 0 x) (g.counts i (omega (arith, l, places_few h))))

  held_most_with : (p v : ℕ) (w : List ℕ) → deliver_number h p v w ≡ none → sum_with (judge_after h) p w ≤ 134217728
  held_most_with p v w e =
      let j = judge_after h in
      omega (
        arith,
        held_others p,
        by_run h j p v w (λ present. (runs_at j p w).count ≡ count_of (rule_from present) p (some w))
            (λ r holds l text. run_count r (places_in h) (standing h) (last_revision h) j holds p l v w text)
            (rule_there h)
            (good h)
            e,
        most_with h p v w e,
      )

-- ---- a last condition that fails wherever it is looked at
idle : (cs : List Condition) (sum : ℕ) → (first_of cs ≡ none → sum ≤ 134217728) → first_of (cs ++ (on 24 (ltb 4294967295 sum) ∷ [])) ≡ first_of cs
idle cs sum small =
    first_append cs (on 24 (ltb 4294967295 sum) ∷ [])
    ∙ by_number (first_of cs) (λ e. le-ltb 4294967295 sum (omega (arith, small e)))
  where
    by_number : (o : Option ℕ) → (o ≡ none → ltb 4294967295 sum ≡ false) → or_else o (cond (ltb 4294967295 sum) (some 24) none) ≡ o
    by_number none fails = rw (fails refl)
    by_number (some x) fails = refl

module _ (h : List Call) (p v : ℕ) (w : List ℕ) where
  same_number : former_number h p v w ≡ deliver_number h p v w
  same_number =
      idle (deliver_conditions (eqb (places_in h) 0) (places_in h) p w (rule_in h).k (not_greater v (last_revision h p)))
      (sum_in_with h p w)
      (most_with h p v w)

pub count_bound : (h : List Call) → CountBound h
count_bound h = record {
  most = most h;
  most_with = most_with h;
  held_most = held_most h;
  held_most_with = held_most_with h;
  same_number = same_number h;
}
