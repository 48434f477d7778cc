-- Chunks that are summarized one by one, on whatever machines, combined in any way and concluded
-- give the report of document 01, for every rule that installing accepts and any number of chunks;
-- with at most 64 it is the report of a filled board. And whatever summaries a rule made are
-- combined, in whatever order, a conclusion that is not refused is the report of the chunks that
-- were used. proofs/Claims.antt proves it.
--
--   judge_of r         a judge that has the rule r built. What it answers to summarizing and
--                      concluding any other answers that has it built (`any_judge`)
--   summary_at r number w  the summary of the chunk w of that number, by the rule r
--   summaries_from r p ws  those of the chunks ws, numbered from p on
--   SummarizesAll r ws     none of the chunks ws is refused
--   texts_of ws        their texts, without idle marks
--   count_of r ws       the sum of the counts that document 01 gives to the chunks
--   many_chunks        with fewer chunks no sum comes to 2^64
--   Trace r ws t       in the brackets t stand the summaries of the chunks ws, numbered from 0 on,
--                      of which none is refused; they can be counted in 64 bits
--   Reports r ws x     x is the report of the chunks ws: yes exactly where the rule r accepts their
--                      texts joined, else no; with the sum of their counts and of their bytes, up
--                      to 2^64 − 1, which says that many or more, and the quotient and remainder
--   Numbered           a chunk with the number that it is summarized as; numbers_of and chunks_of
--   made_by r ps       the summaries that the rule r makes of numbered chunks, refused ones too
--   Used r ps chunks x   the numbered chunks ps are numbered 0, 1, .. chunks − 1, in this order,
--                      none of them is refused, and the report x is theirs
--   concluded_by r t chunks  what is concluded of the summaries in the brackets t, by the rule r
use Rattle.std.specs.Prelude.{◌≡◌, ◌↔◌, ◌⊎◌, ℕ, suc, ◌≤◌, ◌<◌, length, get_or}
use mathlib.Core.List.{List, [], ◌∷◌, map, flatten}
use Rattle.std.proofs.Math.Option.{none, some}
use Rattle.limits.specs.Limits.{most_states, most_places, largest_number}
use Rattle.base.specs.Lists.{list_from}
use Rattle.marks.specs.Marks.{text_of}
use Rattle.compositions.specs.Bracketing.{Bracketed, leaves, value_of}
use Rattle.automaton.specs.declared.Rule.{Rule}
use Rattle.automaton.specs.Automaton.{Accepts}
use Rattle.automaton.specs.Rules.{automaton_of}
use Rattle.delegates.specs.Claims.{starts_in}
use Rattle.build.specs.mirror.Building.{built_of}
use Rattle.digests.specs.Digests.{digest_of}
use Rattle.chunks.specs.Chunks.{delegate_set, end_set, chunk_count}
use Rattle.chunks.specs.Taking.{chunk_number}
use Rattle.joins.specs.Claims as joins
use Rattle.calls.specs.declared.Judge.{Judge}
use Rattle.calls.specs.Replies.{Reported, yes_with, no_with, refused_with, refusal_in, refused}
use Rattle.calls.specs.Calls.{Call, delivers, install_number}
use Rattle.calls.specs.mirror.Steps.{with_rule}
use Rattle.calls.specs.Claims.{Divided}
use Rattle.histories.specs.History.{rule_there, places_in, run_at, report_in, answer_of}
use Rattle.fillings.specs.Filled.{Filled}
use Rattle.summaries.specs.declared.Summary.{Summary}
use Rattle.summaries.specs.Summaries.{capped, combine, summarize_of, conclude_of}

abbrev pub judge_of : Rule → Judge
judge_of r = with_rule r

abbrev pub texts_of : List (List ℕ) → List (List ℕ)
texts_of ws = map text_of ws

abbrev pub many_chunks : ℕ
many_chunks = 8796093022208

pub record Numbered : Type 0 where
  pub number : ℕ
  pub chunk : List ℕ

abbrev pub numbers_of : List Numbered → List ℕ
numbers_of ps = map (λ p. p.number) ps

abbrev pub chunks_of : List Numbered → List (List ℕ)
chunks_of ps = map (λ p. p.chunk) ps

module _ (r : Rule) where
  abbrev pub summary_at : ℕ → List ℕ → Summary
  summary_at number w = (summarize_of (judge_of r) number w).summary

  unfoldable pub summaries_from : ℕ → List (List ℕ) → List Summary
  summaries_from p [] = []
  summaries_from p (w ∷ ws) = summary_at p w ∷ summaries_from (suc p) ws

  abbrev pub SummarizesAll : List (List ℕ) → Type 0
  SummarizesAll ws = (p : ℕ) → p < length ws → (summarize_of (judge_of r) p (get_or ws p [])).refusal ≡ none

  abbrev pub count_of : List (List ℕ) → ℕ
  count_of ws = joins.count_of r (starts_in r).delegates (texts_of ws)

  abbrev pub made_by : List Numbered → List Summary
  made_by ps = map (λ p. summary_at p.number p.chunk) ps

  -- a trace of chunks, in any brackets
  pub record Trace (ws : List (List ℕ)) (t : Bracketed Summary) : Type 0 where
    pub takes : install_number r ≡ none
    pub runs : SummarizesAll ws
    pub within : length ws ≤ largest_number
    pub are : leaves t ≡ summaries_from 0 ws

  pub record Reports (ws : List (List ℕ)) (x : Reported) : Type 0 where
    pub either : (x.verdict ≡ yes_with (capped (count_of ws))) ⊎ (x.verdict ≡ no_with (capped (count_of ws)))
    pub yes_exactly : (x.verdict ≡ yes_with (capped (count_of ws))) ↔ Accepts (automaton_of r) (flatten (texts_of ws))
    pub no_exactly : (x.verdict ≡ no_with (capped (count_of ws))) ↔ (Accepts (automaton_of r) (flatten (texts_of ws)) → ⊥)
    pub divided : Divided (capped (count_of ws)) (capped (length (flatten (texts_of ws)))) x

  pub record Used (ps : List Numbered) (chunks : ℕ) (x : Reported) : Type 0 where
    pub in_order : numbers_of ps ≡ list_from 0 chunks (λ i. i)
    pub runs : SummarizesAll (chunks_of ps)
    pub report : Reports (chunks_of ps) x

abbrev pub concluded_by : Rule → Bracketed Summary → ℕ → Reported
concluded_by r t chunks = conclude_of (judge_of r) (value_of combine t) chunks

pub record Claims : Type 0 where
  -- ---- of a judge only the built rule is looked at
  pub any_judge : (j : Judge) (r : Rule) → j.built ≡ built_of r
      → ((number : ℕ) (w : List ℕ) → summarize_of j number w ≡ summarize_of (judge_of r) number w)
      × ((a : Summary) (chunks : ℕ) → conclude_of j a chunks ≡ conclude_of (judge_of r) a chunks)
  -- ---- one chunk, by a rule that installing accepts: it is refused with 12 and 13 as everywhere (on
  -- any judge: crates/summaries), else its summary has what document 01 gives to it at the place of
  -- that number
  pub refuses : (r : Rule) → install_number r ≡ none → (number : ℕ) (w : List ℕ) → (summarize_of (judge_of r) number w).refusal ≡ chunk_number r.k w
  pub leads : (r : Rule) → install_number r ≡ none → (number : ℕ) (w : List ℕ) → (summarize_of (judge_of r) number w).refusal ≡ none
      → (summary_at r number w).leads
      ≡ list_from 0 most_states (λ q. delegate_set (starts_in r).delegates r.n (end_set r.targets (run_at r number) (text_of w) q))
  pub count : (r : Rule) → install_number r ≡ none → (number : ℕ) (w : List ℕ) → (summarize_of (judge_of r) number w).refusal ≡ none
      → (summary_at r number w).count ≡ chunk_count r.targets (run_at r number) (text_of w)
  pub bytes : (r : Rule) → install_number r ≡ none → (number : ℕ) (w : List ℕ) → (summarize_of (judge_of r) number w).refusal ≡ none
      → (summary_at r number w).bytes ≡ length (text_of w)
  -- ---- a trace of any number of chunks, in any brackets, concluded with that number
  pub concludes : (r : Rule) (ws : List (List ℕ)) (t : Bracketed Summary) → Trace r ws t → Reports r ws (concluded_by r t (length ws))
  -- with fewer than 2^43 chunks nothing is cut off
  pub exact : (r : Rule) (ws : List (List ℕ)) → install_number r ≡ none → SummarizesAll r ws → length ws < many_chunks
      → (capped (count_of r ws) ≡ count_of r ws) × (capped (length (flatten (texts_of ws))) ≡ length (flatten (texts_of ws)))
  -- ---- whatever was combined: where the conclusion is not refused, the chunks that were used are
  -- numbered 0, 1, .. in order, each once, none was refused, and the report is theirs
  pub used : (r : Rule) → install_number r ≡ none → (ps : List Numbered) (t : Bracketed Summary) → leaves t ≡ made_by r ps
      → (chunks : ℕ) → refusal_in (concluded_by r t chunks).verdict ≡ none → Used r ps chunks (concluded_by r t chunks)
  -- a trace by another rule is refused, where its digest is another: with 43
  pub other_rule_lem : (r s : Rule) → install_number r ≡ none → (digest_of (built_of s) ≡ digest_of (built_of r) → ⊥)
      → (ws : List (List ℕ)) (t : Bracketed Summary) → Trace s ws t → (chunks : ℕ) → (concluded_by r t chunks).verdict ≡ refused_with 43
  -- ---- the report of a filled board with the same chunks, every field
  pub as_board : (h : List Call) (r : Rule) (ws : List (List ℕ)) → Filled h r ws → (t : Bracketed Summary) → leaves t ≡ summaries_from r 0 ws
      → concluded_by r t (length ws) ≡ report_in h
  -- what stands on a board is not refused, and 1 to 64 chunks that are not fill one
  pub stands : (h : List Call) (r : Rule) (ws : List (List ℕ)) → Filled h r ws → SummarizesAll r ws
  pub fillings : (r : Rule) → install_number r ≡ none → (ws : List (List ℕ)) → 1 ≤ length ws → length ws ≤ most_places → SummarizesAll r ws
      → (h : List Call) × Filled h r ws
  -- a chunk is refused with 12 or 13 exactly where a delivery of it to a place of a board with that
  -- rule is
  pub as_delivered : (h : List Call) (r : Rule) → rule_there h ≡ some r → (p v : ℕ) → p < places_in h → (number : ℕ) (w : List ℕ)
      → (x : ℕ) → (x ≡ 12) ⊎ (x ≡ 13) → ((summarize_of (judge_of r) number w).refusal ≡ some x) ↔ (answer_of h (delivers p v w) ≡ refused x)
