-- Summaries of chunks: what running a chunk by itself comes to, as a value that can be sent, what
-- two such values come to, one behind the other, and the report that the last one comes to. A
-- summary has
--
--   leads              for each state that was run the mask of the delegates of its end set's
--                      members, of which one without a delegate is passed over; 0 for every other
--                      state
--   count, bytes       the count, and the number of text bytes; 2^64 − 1 says that many or more
--   rule               the digest of the built rule by which it was run
--   first, end         the number of its first chunk, and the number after that of its last one
--   broken             0 where it is whole: its chunks stand in order without a gap, were run by
--                      rules with the same digest, and none was refused. Any other number: it is
--                      broken
--
-- Two summaries are combined without a rule. The definitions:
--
--   capped x           x as a number of 64 bits: the largest of them says that many or more
--   follows a b        b may stand behind a: neither is broken, and b begins where a ends, by the
--                      rule of a
--   combine a b        a and then b; what is broken stays broken, and its fields are taken over all
--                      the same
--   place_of number     the place that the chunk of that number is run as at: 0 for chunk 0, and 1
--                      for any other (document 01, "Running a chunk", asks no more of a place)
--   leads_of d n ends  the leads of the end sets, where d lists the delegates of n states
--   runs_by b number w  what running the chunk w gives by the built rule b
--   made_of b number w, made_from  its summary, by what running it gives. The number 2^64 − 1 has
--                      none after it: broken
--   Summarized, summary_outcome  the answer, none or the number of a refusal, and the summary; and
--                      what the code's result stands for
--   no_summary, summary_refused x  zeros, and broken: what stands beside a refusal; refused with x
--   summary_number j w  the number of the refusal: 20, without a rule; 12, 13 (chunks' chunk_number)
--   summarize_of j number w  what the judge j answers to the chunk w of that number: refused
--                      (summary_by), or its summary
--   reached_by b a     the delegates of initial states are led there: the starts that are reached
--   conclude_conditions j a chunks  20, without a rule; 42, broken, or not from chunk 0; 43, of
--                      another rule; 44, not that many chunks, or none; conclude_number, the first
--                      that holds
--   said_by t count    yes or no with the count
--   conclude_of j a chunks  the report, which is refused (conclude_by) by these conditions in this
--                      order; else yes exactly where a final start is reached, with the count and
--                      its quotient by the bytes (document 02, R-1)
use Rattle.std.specs.Prelude.{Result, Ok, Err, Bool, cond, ◌&&◌, ◌||◌, not, List, [], ◌∷◌, ℕ, zero, suc, ◌+◌, min, eqb, ltb, get_or, replicate}
use Rattle.std.proofs.Math.Option.{Option, none, some}
use Rattle.base.specs.declared.Refusal.{Refusal}
use Rattle.base.specs.Answers.{refusal_number}
use Rattle.limits.specs.Limits.{most_states, largest_number}
use Rattle.base.specs.Conditions.{Condition, on, first_of}
use Rattle.base.specs.Lists.{list_from}
use Rattle.masks.specs.Masks.{shares}
use Rattle.marks.specs.Marks.{text_of}
use Rattle.compositions.specs.Relations.{image_of, compose_of}
use Rattle.build.specs.declared.Built.{Built}
use Rattle.digests.specs.Digests.{digest_of}
use Rattle.chunks.specs.declared.Runs.{Runs}
use Rattle.chunks.specs.Taking.{chunk_number}
use Rattle.chunks.specs.mirror.Walks.{delegate_mask, run_mask, runs_of}
use Rattle.calls.specs.declared.Judge.{Judge}
use Rattle.calls.specs.Replies.{Judgement, Reported, yes_with, no_with, refused_with}
use Rattle.calls.specs.Calls.{alone, report_by}
use Rattle.calls.specs.mirror.Steps.{lacks_rule}
use Rattle.summaries.specs.declared.Summary.{Summary}

-- ---- two summaries
abbrev pub capped : ℕ → ℕ
capped x = min x largest_number

abbrev pub follows : Summary → Summary → Bool
follows a b = eqb a.broken 0 && (eqb b.broken 0 && (eqb a.end b.first && eqb a.rule b.rule))

abbrev pub combine : Summary → Summary → Summary
combine a b = record {
  leads = compose_of most_states a.leads b.leads;
  count = capped (a.count + b.count);
  bytes = capped (a.bytes + b.bytes);
  rule = a.rule;
  first = a.first;
  end = b.end;
  broken = cond (follows a b) 0 1;
}

-- ---- one chunk
abbrev pub place_of : ℕ → ℕ
place_of zero = 0
place_of (suc number) = 1

abbrev pub leads_of : List ℕ → ℕ → List ℕ → List ℕ
leads_of d n ends = list_from 0 most_states (λ q. delegate_mask d n (get_or ends q 0))

abbrev pub runs_by : Built → ℕ → List ℕ → Runs
runs_by b number w =
    runs_of b.sets b.next b.singles (run_mask b.delegates b.n b.initials (place_of number)) (text_of w)

abbrev pub made_from : Built → ℕ → Runs → Summary
made_from b number s = record {
  leads = leads_of b.delegates b.n s.ends;
  count = s.count;
  bytes = s.bytes;
  rule = digest_of b;
  first = number;
  end = capped (number + 1);
  broken = cond (ltb number largest_number) 0 1;
}

abbrev pub made_of : Built → ℕ → List ℕ → Summary
made_of b number w = made_from b number (runs_by b number w)

pub record Summarized : Type 0 where
  pub refusal : Option ℕ
  pub summary : Summary

abbrev pub no_summary : Summary
no_summary = record { leads = replicate most_states 0; count = 0; bytes = 0; rule = 0; first = 0; end = 0; broken = 1 }

abbrev pub summary_refused : ℕ → Summarized
summary_refused number = record { refusal = some number; summary = no_summary }

abbrev pub summary_outcome : Result Summary Refusal → Summarized
summary_outcome (Ok summary) = record { refusal = none; summary = summary }
summary_outcome (Err refusal) = summary_refused (refusal_number refusal)

abbrev pub summary_by : Option ℕ → Summary → Summarized
summary_by none a = record { refusal = none; summary = a }
summary_by (some number) a = summary_refused number

unfoldable pub summary_number : Judge → List ℕ → Option ℕ
summary_number j w = cond (lacks_rule j) (some 20) (chunk_number j.built.k w)

unfoldable pub summarize_of : Judge → ℕ → List ℕ → Summarized
summarize_of j number w = summary_by (summary_number j w) (made_of j.built number w)

-- ---- the report
abbrev pub reached_by : Built → Summary → ℕ
reached_by b a = image_of most_states a.leads (delegate_mask b.delegates b.n b.initials)

abbrev pub conclude_conditions : Judge → Summary → ℕ → List Condition
conclude_conditions j a chunks =
    on 20 (lacks_rule j) ∷
    on 42 (not (eqb a.broken 0) || not (eqb a.first 0)) ∷
    on 43 (not (eqb a.rule (digest_of j.built))) ∷
    on 44 (eqb chunks 0 || not (eqb a.end chunks)) ∷ []

unfoldable pub conclude_number : Judge → Summary → ℕ → Option ℕ
conclude_number j a chunks = first_of (conclude_conditions j a chunks)

abbrev pub said_by : Bool → ℕ → Judgement
said_by final count = cond final (yes_with count) (no_with count)

abbrev pub conclude_by : Option ℕ → Reported → Reported
conclude_by none r = r
conclude_by (some number) r = alone (refused_with number)

unfoldable pub conclude_of : Judge → Summary → ℕ → Reported
conclude_of j a chunks =
    conclude_by (conclude_number j a chunks)
    (report_by (said_by (shares (reached_by j.built a) j.built.finals) a.count) a.bytes)
