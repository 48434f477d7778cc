-- A trace of chunks: what its summaries are, and what they come to when they are combined and
-- concluded. Assumes a rule that is well formed and has at most 512 sets, and chunks that are not
-- refused.
--
--   chunks_joined      the summaries are whole and stand in order
--   reached_is         the starts that are reached are the delegates of the members of C
--   yes_law            a final start is reached exactly where the rule accepts the texts joined
--   count-is, bytes-is   the sums, cut off
--   few_counts, few_bytes   which cuts off nothing with fewer than 2^43 chunks
use mathlib.Core.Path.{◌≡◌, refl, sym, ap, ap₂, ◌∙◌, subst}
use mathlib.Core.Logic.Iff
use mathlib.Core.Logic.{◌↔◌}
use mathlib.Core.Bool.{true}
use mathlib.Core.List.{List, [], ◌∷◌, flatten}
use mathlib.Core.Option.{none}
use Prim.Native.Nat.{ℕ, zero, suc, ◌+◌, ◌*◌, ◌≤◌, ◌<◌, min}
use native.Mathlib.Omega.{arith}
use lib.ListN.{length, get_or, length-append}
use Rattle.base.specs.Totals.{total}
use Rattle.base.proofs.Totals.{total_first, total_same, total_most}
use Rattle.masks.specs.Masks.{shares}
use Rattle.marks.specs.Marks.{text_of}
use Rattle.compositions.specs.Bracketing.{Bracketed, leaves, value_of, fold_from}
use Rattle.compositions.specs.Relations.{image_of}
use Rattle.compositions.proofs.Claims as compositions
use Rattle.automaton.specs.declared.Rule.{Rule}
use Rattle.automaton.specs.Automaton.{Accepts}
use Rattle.automaton.specs.Rules.{automaton_of, WellFormed}
use Rattle.subsets.specs.Claims.{fits}
use Rattle.delegates.specs.Alike.{delegate_in}
use Rattle.delegates.specs.Claims.{starts_in}
use Rattle.build.specs.mirror.Building.{built_of}
use Rattle.digests.specs.Digests.{digest_of}
use Rattle.chunks.specs.Chunks.{end_set, chunk_count}
use Rattle.chunks.specs.mirror.Walks.{delegate_mask}
use Rattle.joins.specs.Joining.{join_of}
use Rattle.joins.specs.Claims.{Texts}
use Rattle.joins.proofs.Claims as joins
use Rattle.histories.specs.History.{run_at}
use Rattle.histories.proofs.Running.{n_same, merged}
use Rattle.summaries.specs.declared.Summary.{Summary}
use Rattle.summaries.specs.Summaries.{capped, combine, runs_by, summarize_of, reached_by}
use Rattle.summaries.specs.Claims.{counts_in, bytes_in, end_in, Joined}
use Rattle.summaries.proofs.Combining as combining
use Rattle.summaries.proofs.Claims as summaries
use Rattle.summaryverdict.specs.Traces.{judge_of, texts_of, summary_at, summaries_from, SummarizesAll, count_of}
use Rattle.summaryverdict.proofs.Leading.{passed, lead_place, join_first, final_reached}
use Rattle.summaryverdict.proofs.Answers as answers

-- ---- lists of texts
pub texts_length : (ws : List (List ℕ)) → length (texts_of ws) ≡ length ws
texts_length [] = refl
texts_length (w ∷ ws) = ap suc (texts_length ws)

pub text_at : (ws : List (List ℕ)) (p : ℕ) → p < length ws → get_or (texts_of ws) p [] ≡ text_of (get_or ws p [])
text_at [] p l = absurd (omega arith)
text_at (w ∷ ws) zero l = refl
text_at (w ∷ ws) (suc p) l = text_at ws p (omega arith)

module _ (r : Rule) (good : WellFormed r) (fit : fits r) where
  abbrev d : List ℕ
  d = (starts_in r).delegates

  -- none of the chunks ws, numbered from p on, is refused
  abbrev Runs : ℕ → List (List ℕ) → Type 0
  Runs p ws = (i : ℕ) → i < length ws → (summarize_of (judge_of r) (p + i) (get_or ws i [])).refusal ≡ none

  here : (p : ℕ) (w : List ℕ) (ws : List (List ℕ)) → Runs p (w ∷ ws) → (summarize_of (judge_of r) p w).refusal ≡ none
  here p w ws h = let e : p + 0 ≡ p = omega arith in rw e at (h 0 (omega arith))

  behind : (p : ℕ) (w : List ℕ) (ws : List (List ℕ)) → Runs p (w ∷ ws) → Runs (suc p) ws
  behind p w ws h i l = let e : p + suc i ≡ suc p + i = omega arith in rw e at (h (suc i) (omega arith))

  from_start : (ws : List (List ℕ)) → SummarizesAll r ws → Runs 0 ws
  from_start ws h i l =
      let e : i ≡ 0 + i = omega arith in
      subst (λ (x : ℕ). (summarize_of (judge_of r) x (get_or ws i [])).refusal ≡ none) e (h i l)

  texts : (ws : List (List ℕ)) (p : ℕ) → Runs p ws → Texts r.k (texts_of ws)
  texts [] p h = tt
  texts (w ∷ ws) p h = (answers.text r good fit p w (here p w ws h), texts ws (suc p) (behind p w ws h))

  -- ---- they stand in order
  numbered : (p : ℕ) (w : List ℕ) → (summarize_of (judge_of r) p w).refusal ≡ none → p < 18446744073709551615
      → ((summary_at r p w).first ≡ p) × ((summary_at r p w).end ≡ p + 1) × ((summary_at r p w).broken ≡ 0)
  numbered p w e l = ((summaries.claims).summarized (judge_of r) p w).numbered e l

  pub chunks_joined : (p : ℕ) (w : List ℕ) (ws : List (List ℕ)) → Runs p (w ∷ ws) → p + length (w ∷ ws) ≤ 18446744073709551615
      → Joined (summary_at r p w) (summaries_from r (suc p) ws) × (end_in (summary_at r p w) (summaries_from r (suc p) ws) ≡ p + length (w ∷ ws))
  unfolding summaries_from end_in
  chunks_joined p w [] h l = let x = numbered p w (here p w [] h) (omega arith) in (x.2, omega (arith, x.1))
  chunks_joined p w (v ∷ ws) h l =
      let x = numbered p w (here p w (v ∷ ws) h) (omega arith) in
      let more = behind p w (v ∷ ws) h in
      let y = numbered (suc p) v (here (suc p) v ws more) (omega arith) in
      let rest = chunks_joined (suc p) v ws more (omega arith) in
      let next : (summary_at r p w).end ≡ (summary_at r (suc p) v).first = omega (arith, x.1, y.0) in
      let rules = answers.ruled r good fit p w (here p w (v ∷ ws) h) ∙ sym (answers.ruled r good fit (suc p) v (here (suc p) v ws more)) in
      ((x.2, next, rules, rest.0), omega (arith, rest.1))

  -- ---- where they lead
  -- the end set of state q in the i-th chunk, where the first has the number p
  unfoldable ends_from : ℕ → List (List ℕ) → ℕ → ℕ → ℕ
  ends_from p [] i q = 0
  ends_from p (w ∷ ws) zero q = get_or (runs_by (built_of r) p w).ends q 0
  ends_from p (w ∷ ws) (suc i) q = ends_from (suc p) ws i q

  end_at_lem : (ws : List (List ℕ)) (p i q : ℕ) → Runs p ws → i < length ws → q < 32
      → ends_from p ws i q ≡ end_set r.targets (run_at r (p + i)) (text_of (get_or ws i [])) q
  unfolding ends_from
  end_at_lem [] p i q h l b = absurd (omega arith)
  end_at_lem (w ∷ ws) p zero q h l b =
      let e : p + 0 ≡ p = omega arith in rw e (answers.end r good fit p w (here p w ws h) q b)
  end_at_lem (w ∷ ws) p (suc i) q h l b =
      let e : p + suc i ≡ suc p + i = omega arith in rw e (end_at_lem ws (suc p) i q (behind p w ws h) (omega arith) b)

  abbrev starts : ℕ → ℕ
  starts m = delegate_mask d (built_of r).n m

  abbrev join : (ℕ → ℕ → ℕ) → ℕ → ℕ → ℕ
  join e m p = join_of e (delegate_in d) (min (built_of r).n 32) m p

  led : (p : ℕ) (w : List ℕ) (m : ℕ) → (summarize_of (judge_of r) p w).refusal ≡ none
      → image_of 32 (summary_at r p w).leads (starts m) ≡ starts (passed d (built_of r).n (λ q. get_or (runs_by (built_of r) p w).ends q 0) m)
  led p w m e =
      ap (λ (a : Summary). image_of 32 a.leads (starts m)) (answers.made r good fit p w e) ∙ lead_place d (built_of r).n (runs_by (built_of r) p w).ends m

  led_all : (ws : List (List ℕ)) (w : List ℕ) (p m : ℕ) → Runs p (w ∷ ws)
      → image_of 32 (fold_from combine (summary_at r p w) (summaries_from r (suc p) ws)).leads (starts m) ≡ starts (join (ends_from p (w ∷ ws)) m (suc (length ws)))
  unfolding summaries_from fold_from ends_from join_of
  led_all [] w p m h = led p w m (here p w [] h)
  led_all (v ∷ ws) w p m h =
      (compositions.claims).images 32 (summary_at r p w).leads (fold_from combine (summary_at r (suc p) v) (summaries_from r (suc (suc p)) ws)).leads (starts m)
      ∙ ap (image_of 32 (fold_from combine (summary_at r (suc p) v) (summaries_from r (suc (suc p)) ws)).leads) (led p w m (here p w (v ∷ ws) h))
      ∙ led_all ws v (suc p) (passed d (built_of r).n (λ q. get_or (runs_by (built_of r) p w).ends q 0) m) (behind p w (v ∷ ws) h)
      ∙ ap starts (sym (join_first d (built_of r).n (ends_from p (w ∷ v ∷ ws)) m (suc (length ws))))

  -- ---- sums
  counts_from : (ws : List (List ℕ)) (p : ℕ) → counts_in (summaries_from r p ws) ≡ total (λ i. (summary_at r (p + i) (get_or ws i [])).count) (length ws)
  unfolding summaries_from counts_in total
  counts_from [] p = refl
  counts_from (w ∷ ws) p =
      let e : p ≡ p + 0 = omega arith in
      ap₂ ◌+◌ (ap (λ (x : ℕ). (summary_at r x w).count) e)
      (counts_from ws (suc p)
      ∙ total_same (λ i. (summary_at r (suc p + i) (get_or ws i [])).count) (λ i. (summary_at r (p + suc i) (get_or ws i [])).count) (length ws)
      (λ i l. let f : suc p + i ≡ p + suc i = omega arith in ap (λ (x : ℕ). (summary_at r x (get_or ws i [])).count) f))
      ∙ sym (total_first (λ i. (summary_at r (p + i) (get_or (w ∷ ws) i [])).count) (length ws))

  bytes_from_lem : (ws : List (List ℕ)) (p : ℕ) → Runs p ws → bytes_in (summaries_from r p ws) ≡ length (flatten (texts_of ws))
  unfolding summaries_from bytes_in flatten
  bytes_from_lem [] p h = refl
  bytes_from_lem (w ∷ ws) p h =
      ap₂ ◌+◌ (answers.bytes r good fit p w (here p w ws h)) (bytes_from_lem ws (suc p) (behind p w ws h)) ∙ sym (length-append (text_of w) (flatten (texts_of ws)))

  bytes_most : (ws : List (List ℕ)) (p : ℕ) → Runs p ws → bytes_in (summaries_from r p ws) ≤ length ws * 65536
  unfolding summaries_from bytes_in
  bytes_most [] p h = omega arith
  bytes_most (w ∷ ws) p h =
      omega (arith, answers.bytes_most r good fit p w (here p w ws h), bytes_most ws (suc p) (behind p w ws h))

  module _ (ws : List (List ℕ)) (runs : SummarizesAll r ws) where
    counts_in_lem : counts_in (summaries_from r 0 ws) ≡ total (λ p. (summary_at r p (get_or ws p [])).count) (length ws)
    counts_in_lem =
        counts_from ws 0
        ∙ total_same (λ i. (summary_at r (0 + i) (get_or ws i [])).count) (λ i. (summary_at r i (get_or ws i [])).count) (length ws)
        (λ i l. let e : 0 + i ≡ i = omega arith in ap (λ (x : ℕ). (summary_at r x (get_or ws i [])).count) e)

    pub counts_are : counts_in (summaries_from r 0 ws) ≡ count_of r ws
    counts_are =
        counts_in_lem
        ∙ total_same (λ p. (summary_at r p (get_or ws p [])).count) (λ p. chunk_count r.targets (run_at r p) (get_or (texts_of ws) p [])) (length ws)
        (λ p l. answers.count r good fit p (get_or ws p []) (runs p l) ∙ ap (chunk_count r.targets (run_at r p)) (sym (text_at ws p l)))
        ∙ ap (total (λ p. chunk_count r.targets (run_at r p) (get_or (texts_of ws) p []))) (sym (texts_length ws))

    counts_most : counts_in (summaries_from r 0 ws) ≤ length ws * 2097152
    counts_most =
        rw counts_in_lem
        (total_most (λ p. (summary_at r p (get_or ws p [])).count) 2097152 (length ws)
        (λ p l. answers.count_most r good fit p (get_or ws p []) (runs p l)))

    pub few_counts : length ws < 8796093022208 → capped (count_of r ws) ≡ count_of r ws
    few_counts l = omega (arith, counts_are, counts_most)

    pub bytes_are : bytes_in (summaries_from r 0 ws) ≡ length (flatten (texts_of ws))
    bytes_are = bytes_from_lem ws 0 (from_start ws runs)

    pub few_bytes : length ws < 8796093022208 → capped (length (flatten (texts_of ws))) ≡ length (flatten (texts_of ws))
    few_bytes l = omega (arith, bytes_are, bytes_most ws 0 (from_start ws runs))

    -- ---- what C comes to
    holds : (p : ℕ) → p < length (texts_of ws) → (q : ℕ) → q < r.n → ends_from 0 ws p q ≡ end_set r.targets (run_at r p) (get_or (texts_of ws) p []) q
    holds p l q h =
        let b : p < length ws = rw (texts_length ws) at l in
        let e : 0 + p ≡ p = omega arith in
        end_at_lem ws 0 p q (from_start ws runs) b (omega (arith, good.states))
        ∙ ap₂ (λ (x : ℕ) (v : List ℕ). end_set r.targets (run_at r x) v q) e (sym (text_at ws p b))

    accepts : (shares (join_of (ends_from 0 ws) (delegate_in d) r.n r.initials (length ws)) r.finals ≡ true) ↔ Accepts (automaton_of r) (flatten (texts_of ws))
    accepts =
        rw (← texts_length ws)
        ((joins.claims).join r good d (starts_in r).startcount (merged r good fit) (ends_from 0 ws) (texts_of ws) (texts ws 0 (from_start ws runs)) holds)

    module _ (t : Bracketed Summary) (are : leaves t ≡ summaries_from r 0 ws) where
      -- there is a first chunk
      record Begins : Type 0 where
        first : List ℕ
        others : List (List ℕ)
        all : ws ≡ first ∷ others
        stand : leaves t ≡ summary_at r 0 first ∷ summaries_from r 1 others

      begins : Begins
      unfolding summaries_from
      begins = of ws refl
        where
          of : (vs : List (List ℕ)) → ws ≡ vs → Begins
          of [] e = let z = ap length (are ∙ ap (summaries_from r 0) e) in absurd (omega (arith, (compositions.claims).some_leaf t, z))
          of (v ∷ vs) e = record { first = v; others = vs; all = e; stand = are ∙ ap (summaries_from r 0) e }

      abbrev b : Begins
      b = begins

      all_run : Runs 0 (b.first ∷ b.others)
      all_run = subst (Runs 0) b.all (from_start ws runs)

      value : value_of combine t ≡ fold_from combine (summary_at r 0 b.first) (summaries_from r 1 b.others)
      value = combining.value-is t (summary_at r 0 b.first) (summaries_from r 1 b.others) b.stand

      -- ---- where they lead
      reached_is : reached_by (built_of r) (value_of combine t) ≡ starts (join (ends_from 0 ws) r.initials (length ws))
      reached_is =
          ap (λ (a : Summary). image_of 32 a.leads (starts r.initials)) value
          ∙ led_all b.others b.first 0 r.initials all_run
          ∙ ap (λ (vs : List (List ℕ)). starts (join (ends_from 0 vs) r.initials (length vs))) (sym b.all)

      pub yes_law : (shares (reached_by (built_of r) (value_of combine t)) r.finals ≡ true) ↔ Accepts (automaton_of r) (flatten (texts_of ws))
      yes_law =
          let c = join_of (ends_from 0 ws) (delegate_in d) r.n r.initials (length ws) in
          let few : min (built_of r).n 32 ≡ r.n = omega (arith, good.states) in
          let same : reached_by (built_of r) (value_of combine t) ≡ delegate_mask d r.n c =
          reached_is
          ∙ ap₂ (λ (x y : ℕ). delegate_mask d x (join_of (ends_from 0 ws) (delegate_in d) y r.initials (length ws))) (n_same r good fit) few in
          let law = Iff.trans (final_reached r good d (starts_in r).startcount (merged r good fit) c) accepts in (
            (λ e. law.0 (subst (λ (x : ℕ). shares x r.finals ≡ true) same e)),
            λ e. subst (λ (x : ℕ). shares x r.finals ≡ true) (sym same) (law.1 e),
          )

      -- ---- the sums, which are numbers of 64 bits
      within : (a : Summary) (s : List Summary) → a.count ≤ 2097152 → a.bytes ≤ 65536
          → (capped (fold_from combine a s).count ≡ (fold_from combine a s).count) × (capped (fold_from combine a s).bytes ≡ (fold_from combine a s).bytes)
      unfolding fold_from
      within a [] x y = (omega arith, omega arith)
      within a (c ∷ s) x y = (combining.twice _, combining.twice _)

      fits_64 : (capped (value_of combine t).count ≡ (value_of combine t).count) × (capped (value_of combine t).bytes ≡ (value_of combine t).bytes)
      fits_64 =
          let e = here 0 b.first b.others all_run in
          rw value
          (within (summary_at r 0 b.first) (summaries_from r 1 b.others)
          (answers.count_most r good fit 0 b.first e)
          (answers.bytes_most r good fit 0 b.first e))

      pub count-is : (value_of combine t).count ≡ capped (count_of r ws)
      count-is = sym fits_64.0 ∙ combining.counts t ∙ ap capped (ap counts_in are ∙ counts_are)

      pub bytes-is : (value_of combine t).bytes ≡ capped (length (flatten (texts_of ws)))
      bytes-is = sym fits_64.1 ∙ combining.bytes t ∙ ap capped (ap bytes_in are ∙ bytes_are)

      -- ---- it is whole, from chunk 0 to the last one
      pub rule_is : (value_of combine t).rule ≡ digest_of (built_of r)
      rule_is = (combining.span t _ _ b.stand).2 ∙ answers.ruled r good fit 0 b.first (here 0 b.first b.others all_run)

      module _ (few : length ws ≤ 18446744073709551615) where
        room : 0 + length (b.first ∷ b.others) ≤ 18446744073709551615
        room = omega (arith, ap length b.all)

        pub whole : (value_of combine t).broken ≡ 0
        whole = (combining.whole t _ _ b.stand).1 (chunks_joined 0 b.first b.others all_run room).0

        pub first-is : (value_of combine t).first ≡ 0
        first-is =
            (combining.span t _ _ b.stand).0
            ∙ (numbered 0 b.first (here 0 b.first b.others all_run) (omega (arith, room))).0

        pub end_is : (value_of combine t).end ≡ length ws
        end_is =
            (combining.span t _ _ b.stand).1
            ∙ (chunks_joined 0 b.first b.others all_run room).1
            ∙ omega (arith, ap length b.all)

      pub some_chunk : 0 < length ws
      some_chunk = omega (arith, ap length b.all)
