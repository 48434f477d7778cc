-- What document 01 gives to a chunk at a place, by runs of the automaton: the states that it is run
-- from, its end sets, its count and R-2's number. Of a rule as a value first, then of the bytes of
-- a file, whose automaton has the same runs. Assumes nothing.
--
--   run_within          a run goes on from a state below n
--   started_law         the set of the states that are run has the started ones
--   end_law, count_law, looked_law   end sets, counts and R-2's number
--   run_by_lem, started_by  of what a rule comes from
use mathlib.Core.Path.{◌≡◌, subst}
use mathlib.Core.Logic.Iff
use mathlib.Core.Logic.{◌↔◌}
use mathlib.Core.Bool.{true, false}
use mathlib.Core.List.{List}
use mathlib.Core.Option.{some}
use Prim.Native.Nat.{ℕ, zero, suc, ◌*◌, ◌/◌, ◌%◌, ◌^◌, ◌≤◌, ◌<◌}
use native.Mathlib.Nat.{lt_of_lt_of_le}
use native.Mathlib.Omega.{arith}
use lib.ListN.{length, take}
use lib.Dec.{eqb}
use lib.Pow.{pow_mono}
use borrow.Author.Tests.{eqb-true, eqb-false}
use Rattle.base.proofs.Tests.{by_test}
use Rattle.masks.specs.Masks.{◌∈◌, has, single}
use Rattle.masks.proofs.Laws.{no_member, some_member, has_member, member_of, members_below}
use Rattle.automaton.specs.declared.Rule.{Rule}
use Rattle.automaton.specs.Automaton.{Automaton, Run, stay, move}
use Rattle.automaton.specs.Rules.{automaton_of, WellFormed}
use Rattle.automaton.specs.Successor.{after}
use Rattle.subsets.specs.Claims.{fits}
use Rattle.delegates.specs.Alike.{Live, Delegate, delegate_in}
use Rattle.delegates.specs.Claims.{starts_in}
use Rattle.delegates.proofs.Claims as delegates
use Rattle.chunks.specs.Chunks.{end_set, chunk_count, looked}
use Rattle.chunks.specs.Claims.{AllEmpty}
use Rattle.chunks.specs.Counting.{HowMany, RunsOver}
use Rattle.chunks.proofs.Counting.{how_many_map, chunk_counts}
use Rattle.chunks.proofs.Claims as chunks
use Rattle.histories.specs.History.{run_at}
use Rattle.histories.proofs.Running.{merged, run-below}
use Rattle.histories.proofs.Method.{leads_after}
use Rattle.transcripts.specs.Runs.{Started, Dead, LookedUp}

-- a state with a run is a state
pub run_within : {a : Automaton} {q p : ℕ} {w : List ℕ} → Run a q w p → q < a.n
run_within (stay b) = b
run_within (move x r) = x.source

pub live_within : (a : Automaton) (q : ℕ) → Live a q → q < a.n
live_within a q l = run_within l.accepts.run

module _ (r : Rule) (good : WellFormed r) (fit : fits r) where
  abbrev listed : List ℕ
  listed = (starts_in r).delegates

  -- the delegate of a state is the one that the list says
  pub listed_law : (q d : ℕ) → q < r.n → (delegate_in listed q ≡ some d) ↔ Delegate (automaton_of r) q (some d)
  listed_law q d l =
      let is = (delegates.claims).delegates_in_lem (automaton_of r) good.states.1 listed (starts_in r).startcount (merged r good fit) q l in (
        (λ e. subst (Delegate (automaton_of r) q) e is),
        λ x. (delegates.claims).one_delegate (automaton_of r) q (delegate_in listed q) (some d) is x,
      )

  pub started_law : (p q : ℕ) → q ∈ run_at r p ↔ Started (automaton_of r) p q
  started_law zero q =
      Iff.trans ((chunks.claims).delegate_law listed r.n r.initials q) (
        (λ x. (x.0, x.2, (listed_law x.0 q x.1).0 x.3)),
        λ x.
            let l = members_below r.n r.initials x.0 good.initials_below x.1 in
            (x.0, l, x.1, (listed_law x.0 q l).1 x.2),
      )
  started_law (suc p) q =
      Iff.trans ((chunks.claims).start_own listed r.n q good.states.1) (
        (λ x. (listed_law q q x.0).0 x.1),
        λ x. let l = live_within (automaton_of r) q x.0 in (l, (listed_law q q l).1 x),
      )

  run_state : (p q : ℕ) → q ∈ run_at r p → q < r.n
  run_state p q x = members_below r.n (run_at r p) q (run-below r good fit p) x

  pub end_law : (p q : ℕ) (w : List ℕ) (y : ℕ) → y ∈ end_set r.targets (run_at r p) w q ↔ (Started (automaton_of r) p q × Run (automaton_of r) q w y)
  end_law p q w y =
      by_test (has (run_at r p) q)
      (λ t.
      let m = member_of (run_at r p) q t in
      rw t (Iff.trans (leads_after r good q (run_state p q m) w y) ((λ x. ((started_law p q).0 m, x)), λ x. x.1)))
      (λ t. rw t (
        (λ x. absurd (no_member y x)),
        λ x. let z = has_member (run_at r p) q ((started_law p q).1 x.0) in let e : true ≡ false = cc in absurd (apart e),
      ))
    where
      apart : true ≡ false → ⊥
      apart e = let z : ◌≡◌ {A = ℕ} 0 1 = cc in omega arith

  pub count_law : (p : ℕ) (w : List ℕ) → length w ≤ 65536
      → HowMany (λ x. Started (automaton_of r) p (x / 65536) × (x % 65536 < length w) × RunsOver (automaton_of r) (x / 65536) (take (suc (x % 65536)) w))
      (32 * 65536) (chunk_count r.targets (run_at r p) w)
  count_law p w short =
      how_many_map (λ x l. (
        (λ c. ((started_law p (x / 65536)).0 c.started, c.byte, c.goes)),
        λ c. record { started = (started_law p (x / 65536)).1 c.0; byte = c.1; goes = c.2 },
      ))
      (chunk_counts r good (run_at r p) (run-below r good fit p) w short)

  -- every set is empty exactly where no run goes on
  dead_law : (p : ℕ) (w : List ℕ) → AllEmpty r.targets (run_at r p) w ↔ Dead (automaton_of r) p w
  dead_law p w = (
    (λ x q s run.
        let m = (started_law p q).1 s in
        no_member run.0 (subst (λ (z : ℕ). run.0 ∈ z) (x q m) ((leads_after r good q (run_state p q m) w run.0).1 run.1))),
    λ x q m.
        by_test (eqb (after r.targets (single q) w) 0)
        (λ t. eqb-true (after r.targets (single q) w) 0 t)
        (λ t.
        let y = some_member (after r.targets (single q) w) (eqb-false (after r.targets (single q) w) 0 t) in
        absurd (x q ((started_law p q).0 m) (y.0, (leads_after r good q (run_state p q m) w y.0).0 y.1))),
  )

  pub looked_law : (p : ℕ) (w : List ℕ) → LookedUp (automaton_of r) p w (looked r.targets (run_at r p) w)
  looked_law p w =
      let few : run_at r p < 2 ^ 32 = lt_of_lt_of_le (run-below r good fit p) (pow_mono good.states.1) in
      let n = looked r.targets (run_at r p) w in
      record {
        most = (chunks.claims).looked_most r.targets (run_at r p) w;
        all-empty = λ l. (dead_law p (take n w)).0 ((chunks.claims).looked_all_empty r.targets (run_at r p) few w l);
        least = λ i l x. (chunks.claims).looked_least r.targets (run_at r p) few w i l ((dead_law p (take i w)).1 x);
      }
