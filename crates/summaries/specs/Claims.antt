-- What makes summaries fit to judge by, of all values and on any judge: no rule is asked for;
-- proofs/Claims.antt proves it. crates/summaryverdict says what they come to for a rule.
--
--   counts_in s, bytes_in s  the sums of the counts and of the bytes
--   end_in a s          the number after the last chunk of the summary a and those behind it
--   Joined a s         the summary a and those behind it are whole: none is broken, each begins
--                      where the one before it ends, and all are of one rule
--   SummarizedExactly j number w    which number summarizing is refused with, condition by
--                      condition
--   ConcludedExactly j a chunks     the same of concluding
use Rattle.std.specs.Prelude.{◌≡◌, ◌↔◌, ◌⊎◌, true, false, List, [], ◌∷◌, ℕ, ◌+◌, ◌≤◌, ◌<◌, length, get_or}
use Rattle.std.proofs.Math.Option.{none, some}
use Rattle.limits.specs.Limits.{most_states, longest_chunk, largest_number}
use Rattle.masks.specs.Masks.{◌∈◌}
use Rattle.marks.specs.Marks.{text_of}
use Rattle.compositions.specs.Bracketing.{Bracketed, leaves, Associative, value_of}
use Rattle.digests.specs.Digests.{digest_of}
use Rattle.chunks.specs.Chunks.{foreign}
use Rattle.calls.specs.declared.Judge.{Judge}
use Rattle.calls.specs.Replies.{refused_with, refusal_in}
use Rattle.summaries.specs.declared.Summary.{Summary}
use Rattle.summaries.specs.Summaries.{capped, combine, made_of, no_summary, summarize_of, conclude_of}

unfoldable pub counts_in : List Summary → ℕ
counts_in [] = 0
counts_in (a ∷ s) = a.count + counts_in s

unfoldable pub bytes_in : List Summary → ℕ
bytes_in [] = 0
bytes_in (a ∷ s) = a.bytes + bytes_in s

unfoldable pub end_in : Summary → List Summary → ℕ
end_in a [] = a.end
end_in a (b ∷ s) = end_in b s

abbrev pub Joined : Summary → List Summary → Type 0
Joined a [] = a.broken ≡ 0
Joined a (b ∷ s) = (a.broken ≡ 0) × (a.end ≡ b.first) × (a.rule ≡ b.rule) × Joined b s

pub record SummarizedExactly (j : Judge) (number : ℕ) (w : List ℕ) : Type 0 where
  pub refused_20 : ((summarize_of j number w).refusal ≡ some 20) ↔ (j.built.n ≡ 0)
  pub refused_12 : ((summarize_of j number w).refusal ≡ some 12) ↔ ((0 < j.built.n) × (longest_chunk < length w))
  pub refused_13 : ((summarize_of j number w).refusal ≡ some 13)
      ↔ ((0 < j.built.n) × (length w ≤ longest_chunk) × (foreign (text_of w) j.built.k ≡ true))
  pub taken : ((summarize_of j number w).refusal ≡ none)
      ↔ ((0 < j.built.n) × (length w ≤ longest_chunk) × (foreign (text_of w) j.built.k ≡ false))
  pub no_other : (x : ℕ) → (summarize_of j number w).refusal ≡ some x → (x ≡ 20) ⊎ (x ≡ 12) ⊎ (x ≡ 13)
  -- beside a refusal stand zeros, and it is broken
  pub zeros : (x : ℕ) → (summarize_of j number w).refusal ≡ some x → (summarize_of j number w).summary ≡ no_summary
  -- else it has the number of its chunk and the next one, and is whole; but for the largest number,
  -- which has none after it
  pub made : (summarize_of j number w).refusal ≡ none → (summarize_of j number w).summary ≡ made_of j.built number w
  pub numbered : (summarize_of j number w).refusal ≡ none → number < largest_number
      → ((summarize_of j number w).summary.first ≡ number) × ((summarize_of j number w).summary.end ≡ number + 1) × ((summarize_of j number w).summary.broken ≡ 0)
  pub last_number : (summarize_of j largest_number w).refusal ≡ none
      → ((summarize_of j largest_number w).summary.end ≡ largest_number) × ((summarize_of j largest_number w).summary.broken ≡ 1)

pub record ConcludedExactly (j : Judge) (a : Summary) (chunks : ℕ) : Type 0 where
  pub refused_20 : ((conclude_of j a chunks).verdict ≡ refused_with 20) ↔ (j.built.n ≡ 0)
  pub refused_42 : ((conclude_of j a chunks).verdict ≡ refused_with 42)
      ↔ ((0 < j.built.n) × ((0 < a.broken) ⊎ (0 < a.first)))
  pub refused_43 : ((conclude_of j a chunks).verdict ≡ refused_with 43)
      ↔ ((0 < j.built.n) × (a.broken ≡ 0) × (a.first ≡ 0) × (a.rule ≡ digest_of j.built → ⊥))
  pub refused_44 : ((conclude_of j a chunks).verdict ≡ refused_with 44)
      ↔ ((0 < j.built.n) × (a.broken ≡ 0) × (a.first ≡ 0) × (a.rule ≡ digest_of j.built) × ((chunks ≡ 0) ⊎ (a.end ≡ chunks → ⊥)))
  pub taken : (refusal_in (conclude_of j a chunks).verdict ≡ none)
      ↔ ((0 < j.built.n) × (a.broken ≡ 0) × (a.first ≡ 0) × (a.rule ≡ digest_of j.built) × (0 < chunks) × (a.end ≡ chunks))
  pub no_other : (x : ℕ) → (conclude_of j a chunks).verdict ≡ refused_with x → (x ≡ 20) ⊎ (x ≡ 42) ⊎ (x ≡ 43) ⊎ (x ≡ 44)

pub record Claims : Type 0 where
  -- ---- two summaries combined, of all values
  -- where state q is led by two chunks, one behind the other: wherever the later leads what the
  -- earlier led q to
  pub members : (a b : Summary) (q p : ℕ) → q < most_states
      → p ∈ get_or (combine a b).leads q 0 ↔ (x : ℕ) × (x < most_states) × (x ∈ get_or a.leads q 0) × (p ∈ get_or b.leads x 0)
  -- combining is associative on all values, broken ones too, and so brackets do not matter
  pub associative : Associative combine
  pub bracketing : (x y : Bracketed Summary) → leaves x ≡ leaves y → value_of combine x ≡ value_of combine y
  -- every list of summaries but the empty one can be put in brackets
  pub bracketed : (a : Summary) (s : List Summary) → (t : Bracketed Summary) × (leaves t ≡ a ∷ s)
  -- ---- what they come to, in whatever brackets
  -- whole exactly where all that stands in them is whole, without a gap, and of one rule
  pub whole : (t : Bracketed Summary) (a : Summary) (s : List Summary) → leaves t ≡ a ∷ s → ((value_of combine t).broken ≡ 0) ↔ Joined a s
  -- from the first chunk to the last, of the first one's rule
  pub span : (t : Bracketed Summary) (a : Summary) (s : List Summary) → leaves t ≡ a ∷ s
      → ((value_of combine t).first ≡ a.first) × ((value_of combine t).end ≡ end_in a s) × ((value_of combine t).rule ≡ a.rule)
  -- the count and the bytes are the sums, up to the largest number of 64 bits, which says that many
  -- or more; what is no number of 64 bits is cut to one where it is combined
  pub counts : (t : Bracketed Summary) → capped (value_of combine t).count ≡ capped (counts_in (leaves t))
  pub bytes : (t : Bracketed Summary) → capped (value_of combine t).bytes ≡ capped (bytes_in (leaves t))
  -- where they are concluded, all are of the judge's rule, as far as digests tell
  pub one_rule : (j : Judge) (t : Bracketed Summary) (chunks : ℕ) → refusal_in (conclude_of j (value_of combine t) chunks).verdict ≡ none
      → (i : ℕ) → i < length (leaves t) → (get_or (leaves t) i no_summary).rule ≡ digest_of j.built
  -- ---- what is refused, on any judge
  pub summarized : (j : Judge) (number : ℕ) (w : List ℕ) → SummarizedExactly j number w
  pub concluded : (j : Judge) (a : Summary) (chunks : ℕ) → ConcludedExactly j a chunks
