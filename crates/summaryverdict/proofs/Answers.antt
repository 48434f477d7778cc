-- One chunk: what 01 gives to it. Assumes a rule that is well formed and has at most 512 sets, and
-- in the last part that the chunk is not refused.
use mathlib.Core.Path.{◌≡◌, refl, sym, ap, ap₂, ◌∙◌}
use mathlib.Core.Bool.{Bool, true, false, cond}
use mathlib.Core.List.{List}
use mathlib.Core.Option.{none}
use Prim.Native.Nat.{ℕ, zero, suc, ◌*◌, ◌≤◌, ◌<◌}
use native.Mathlib.Omega.{arith}
use lib.ListN.{length, get_or}
use borrow.Author.Tests.{ne_eqb}
use Rattle.base.specs.Lists.{list_from}
use Rattle.base.proofs.Lists.{same_list}
use Rattle.base.proofs.Totals.{total_most}
use Rattle.masks.specs.Masks.{single, has}
use Rattle.marks.specs.Marks.{text_of}
use Rattle.marks.proofs.Claims as marks
use Rattle.automaton.specs.declared.Rule.{Rule}
use Rattle.automaton.specs.Automaton.{Text}
use Rattle.automaton.specs.Rules.{WellFormed}
use Rattle.subsets.specs.Claims.{fits}
use Rattle.delegates.specs.Claims.{starts_in}
use Rattle.build.specs.mirror.Building.{built_of}
use Rattle.digests.specs.Digests.{digest_of}
use Rattle.chunks.specs.Chunks.{foreign, counted, delegate_set, end_set, chunk_count}
use Rattle.chunks.specs.Taking.{chunk_number}
use Rattle.chunks.specs.mirror.Walks.{delegate_mask}
use Rattle.chunks.proofs.Claims as chunks
use Rattle.histories.specs.History.{run_at}
use Rattle.histories.proofs.Running.{n_same, k_same, end_same, count_same}
use Rattle.summaries.specs.declared.Summary.{Summary}
use Rattle.summaries.specs.Summaries.{place_of, runs_by, made_of, summary_number, summarize_of}
use Rattle.summaries.proofs.Answers.{refusal_is}
use Rattle.summaries.proofs.Claims as summaries
use Rattle.summaryverdict.specs.Traces.{judge_of, summary_at}

-- a chunk is run as at the place of its number
run-at : (r : Rule) (number : ℕ) → run_at r (place_of number) ≡ run_at r number
run-at r zero = refl
run-at r (suc number) = refl

-- ---- what a chunk counts
chunk_most : (ts : List ℕ) (run : ℕ) (w : List ℕ) → chunk_count ts run (text_of w) ≤ 32 * length w
chunk_most ts run w =
    total_most (λ q. cond (has run q) (counted ts (single q) (text_of w)) 0) (length w) 32 (λ q _. one (has run q) q)
  where
    one : (t : Bool) (q : ℕ) → cond t (counted ts (single q) (text_of w)) 0 ≤ length w
    one true q = omega (arith, (chunks.claims).counted_most ts (single q) (text_of w), (marks.claims).no_longer w)
    one false q = omega arith

module _ (r : Rule) (good : WellFormed r) (fit : fits r) (number : ℕ) (w : List ℕ) where
  pub refuses : (summarize_of (judge_of r) number w).refusal ≡ chunk_number r.k w
  unfolding summary_number
  refuses =
      refusal_is (judge_of r) w number
      ∙ rw (ne_eqb (built_of r).n 0 (λ z. omega (arith, n_same r good fit, good.states))) (ap (λ (k : ℕ). chunk_number k w) (k_same r good fit))

  module _ (e : (summarize_of (judge_of r) number w).refusal ≡ none) where
    taken : (length w ≤ 65536) × (foreign (text_of w) r.k ≡ false)
    taken = ((chunks.claims).taking r.k w).taken.0 (sym refuses ∙ e)

    pub text : Text r.k (text_of w)
    text = ((chunks.claims).text_law (text_of w) r.k).0 taken.1

    pub made : summary_at r number w ≡ made_of (built_of r) number w
    made = ((summaries.claims).summarized (judge_of r) number w).made e

    -- the end sets
    pub end : (q : ℕ) → q < 32 → get_or (runs_by (built_of r) number w).ends q 0 ≡ end_set r.targets (run_at r number) (text_of w) q
    end q h =
        end_same r good fit (place_of number) (text_of w) text q h
        ∙ ap (λ (run : ℕ). end_set r.targets run (text_of w) q) (run-at r number)

    pub leads : (summary_at r number w).leads
        ≡ list_from 0 32 (λ q. delegate_set (starts_in r).delegates r.n (end_set r.targets (run_at r number) (text_of w) q))
    leads =
        ap (λ (a : Summary). a.leads) made
        ∙ same_list 32 (λ q. delegate_mask (starts_in r).delegates (built_of r).n (get_or (runs_by (built_of r) number w).ends q 0))
        (λ q. delegate_set (starts_in r).delegates r.n (end_set r.targets (run_at r number) (text_of w) q))
        (λ q h.
        ap₂ (delegate_mask (starts_in r).delegates) (n_same r good fit) (end q h)
        ∙ (chunks.claims).delegate_mask_lem (starts_in r).delegates r.n (end_set r.targets (run_at r number) (text_of w) q) good.states.1)

    pub count : (summary_at r number w).count ≡ chunk_count r.targets (run_at r number) (text_of w)
    count =
        ap (λ (a : Summary). a.count) made
        ∙ count_same r good fit (place_of number) (text_of w) text
        ∙ ap (λ (run : ℕ). chunk_count r.targets run (text_of w)) (run-at r number)

    pub bytes : (summary_at r number w).bytes ≡ length (text_of w)
    bytes = ap (λ (a : Summary). a.bytes) made

    pub ruled : (summary_at r number w).rule ≡ digest_of (built_of r)
    ruled = ap (λ (a : Summary). a.rule) made

    pub count_most : (summary_at r number w).count ≤ 2097152
    count_most = omega (arith, count, chunk_most r.targets (run_at r number) w, taken.0)

    pub bytes_most : (summary_at r number w).bytes ≤ 65536
    bytes_most = omega (arith, bytes, (marks.claims).no_longer w, taken.0)
