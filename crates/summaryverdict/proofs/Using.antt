-- Whatever was combined: where it is concluded, the chunks that were used are a trace. Assumes a
-- rule that installing accepts.
--
-- The route: a summary that is whole was not refused, and has its number and the next one; so in
-- what is whole each summary's number is one more than that before it, and where the first is 0
-- they are 0, 1, 2 and so on, up to the number of chunks that is concluded.
use mathlib.Core.Path.{◌≡◌, refl, sym, ap, ap₂, ◌∙◌, subst}
use mathlib.Core.List.{List, [], ◌∷◌}
use mathlib.Core.Option.{Option, none, some}
use Prim.Native.Nat.{ℕ, zero, suc, ◌+◌, ◌≤◌, ◌<◌}
use native.Mathlib.Omega.{arith}
use lib.Dec.{ltb}
use lib.ListN.{length, get_or}
use borrow.Author.Tests.{ltb-true}
use Rattle.base.specs.Lists.{list_from}
use Rattle.base.proofs.Tests.{by_test}
use Rattle.compositions.specs.Bracketing.{Bracketed, leaves, value_of}
use Rattle.compositions.proofs.Claims as compositions
use Rattle.automaton.specs.declared.Rule.{Rule}
use Rattle.calls.specs.Replies.{refusal_in}
use Rattle.calls.specs.Calls.{install_number}
use Rattle.summaries.specs.declared.Summary.{Summary}
use Rattle.summaries.specs.Summaries.{combine, summarize_of}
use Rattle.summaries.specs.Claims.{end_in, Joined}
use Rattle.summaries.proofs.Claims as summaries
use Rattle.summaryverdict.specs.Traces.{judge_of, Numbered, numbers_of, chunks_of, summary_at, summaries_from, SummarizesAll, made_by, Trace, Used, concluded_by}
use Rattle.summaryverdict.proofs.Concluding.{concludes}

module _ (r : Rule) where
  -- ---- one summary
  record Whole (p : Numbered) : Type 0 where
    taken : (summarize_of (judge_of r) p.number p.chunk).refusal ≡ none
    room : p.number < 18446744073709551615
    first : (summary_at r p.number p.chunk).first ≡ p.number
    end : (summary_at r p.number p.chunk).end ≡ p.number + 1

  whole : (p : Numbered) → (summary_at r p.number p.chunk).broken ≡ 0 → Whole p
  whole p e = of (summarize_of (judge_of r) p.number p.chunk).refusal refl
    where
      of : (o : Option ℕ) → (summarize_of (judge_of r) p.number p.chunk).refusal ≡ o → Whole p
      of (some x) f =
          let z : ◌≡◌ {A = ℕ} 1 0 =
          sym (ap (λ (a : Summary). a.broken) (((summaries.claims).summarized (judge_of r) p.number p.chunk).zeros x f)) ∙ e in
          absurd (omega arith)
      of none f =
          let law = (summaries.claims).summarized (judge_of r) p.number p.chunk in
          let broken = sym (ap (λ (a : Summary). a.broken) (law.made f)) ∙ e in
          let below : p.number < 18446744073709551615 =
          by_test (ltb p.number 18446744073709551615) (λ t. ltb-true p.number 18446744073709551615 t)
          (λ t. let z : ◌≡◌ {A = ℕ} 1 0 = rw t at broken in absurd (omega arith)) in
          let n = law.numbered f below in
          record { taken = f; room = below; first = n.0; end = n.1 }

  -- ---- one behind the other, where the first has the number i
  number : (p : Numbered) (ps : List Numbered) → Joined (summary_at r p.number p.chunk) (made_by r ps) → (summary_at r p.number p.chunk).first ≡ p.number
  number p [] j = (whole p j).first
  number p (q ∷ ps) j = (whole p j.0).first

  record Chain (i : ℕ) (p : Numbered) (ps : List Numbered) : Type 0 where
    in_order : numbers_of (p ∷ ps) ≡ list_from i (length (p ∷ ps)) (λ x. x)
    runs : (x : ℕ) → x < length (p ∷ ps) → (summarize_of (judge_of r) (i + x) (get_or (chunks_of (p ∷ ps)) x [])).refusal ≡ none
    room : i + length (p ∷ ps) ≤ 18446744073709551615
    end : end_in (summary_at r p.number p.chunk) (made_by r ps) ≡ i + length (p ∷ ps)
    are : made_by r (p ∷ ps) ≡ summaries_from r i (chunks_of (p ∷ ps))

  chain : (ps : List Numbered) (p : Numbered) (i : ℕ) → Joined (summary_at r p.number p.chunk) (made_by r ps) → p.number ≡ i → Chain i p ps
  unfolding list_from end_in summaries_from
  chain [] p i j e =
      let one = whole p j in
      record {
        in_order = ap (λ (x : ℕ). x ∷ []) e;
        runs = λ x l.
            let z : p.number ≡ i + x = omega arith in
            let y : x ≡ 0 = omega arith in
            rw (← z, y) one.taken;
        room = omega (arith, one.room);
        end = omega (arith, one.end);
        are = ap (λ (x : ℕ). summary_at r x p.chunk ∷ []) e;
      }
  chain (q ∷ ps) p i j e =
      let one = whole p j.0 in
      let next : q.number ≡ suc i = sym (number q ps j.3) ∙ omega (arith, one.end, j.1) in
      let rest = chain ps q (suc i) j.3 next in
      record {
        in_order = ap₂ (λ (x : ℕ) (xs : List ℕ). x ∷ xs) e rest.in_order;
        runs = λ x l. at x l one.taken rest.runs;
        room = omega (arith, rest.room);
        end = rest.end ∙ omega arith;
        are = ap₂ (λ (a : Summary) (s : List Summary). a ∷ s) (ap (λ (x : ℕ). summary_at r x p.chunk) e) rest.are;
      }
    where
      at : (x : ℕ) → x < length (p ∷ q ∷ ps) → (summarize_of (judge_of r) p.number p.chunk).refusal ≡ none
          → ((y : ℕ) → y < length (q ∷ ps) → (summarize_of (judge_of r) (suc i + y) (get_or (chunks_of (q ∷ ps)) y [])).refusal ≡ none)
          → (summarize_of (judge_of r) (i + x) (get_or (chunks_of (p ∷ q ∷ ps)) x [])).refusal ≡ none
      at zero l f g = let z : p.number ≡ i + 0 = omega arith in rw (← z) f
      at (suc x) l f g = let z : suc i + x ≡ i + suc x = omega arith in rw (← z) (g x (omega arith))

  -- ---- concluded
  module _ (takes : install_number r ≡ none) (t : Bracketed Summary) (chunks : ℕ) (ok : refusal_in (concluded_by r t chunks).verdict ≡ none) where
    pub used : (ps : List Numbered) → leaves t ≡ made_by r ps → Used r ps chunks (concluded_by r t chunks)
    used [] e = let z = ap length e in absurd (omega (arith, (compositions.claims).some_leaf t, z))
    used (p ∷ ps) e =
        let x = ((summaries.claims).concluded (judge_of r) (value_of combine t) chunks).taken.0 ok in
        let joined = ((summaries.claims).whole t (summary_at r p.number p.chunk) (made_by r ps) e).0 x.1 in
        let span = (summaries.claims).span t (summary_at r p.number p.chunk) (made_by r ps) e in
        let zero-first : (summary_at r p.number p.chunk).first ≡ 0 = sym span.0 ∙ x.2 in
        let begins : p.number ≡ 0 = sym (number p ps joined) ∙ zero-first in
        let c = chain ps p 0 joined begins in
        let all : length (p ∷ ps) ≡ chunks = omega (arith, c.end, span.1, x.5) in
        let runs : SummarizesAll r (chunks_of (p ∷ ps)) = λ i l.
        let z : 0 + i ≡ i = omega arith in
        subst (λ (y : ℕ). (summarize_of (judge_of r) y (get_or (chunks_of (p ∷ ps)) i [])).refusal ≡ none) z (c.runs i (omega (arith, same_length (p ∷ ps)))) in
        let trace : Trace r (chunks_of (p ∷ ps)) t =
        record { takes = takes; runs = runs; within = omega (arith, c.room, same_length (p ∷ ps)); are = e ∙ c.are } in
        record {
          in_order = c.in_order ∙ ap (λ (n : ℕ). list_from 0 n (λ i. i)) all;
          runs = runs;
          report =
              let long : length (chunks_of (p ∷ ps)) ≡ chunks = same_length (p ∷ ps) ∙ all in
              rw long at (concludes r (chunks_of (p ∷ ps)) t trace);
        }
      where
        same_length : (ps : List Numbered) → length (chunks_of ps) ≡ length ps
        same_length [] = refl
        same_length (p ∷ ps) = ap suc (same_length ps)
