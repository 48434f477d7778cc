-- What running a chunk gives, for every well-formed rule with at most 512 sets, as it is built;
-- proofs/Claims.antt proves it.
use Rattle.std.specs.Prelude.{◌≡◌, ◌↔◌, false, List, ℕ, suc, ◌*◌, ◌/◌, ◌%◌, ◌^◌, ◌<◌, ◌≤◌, length, get_or, take}
use Rattle.std.proofs.Math.Option.{some}
use Rattle.limits.specs.Limits.{most_states, longest_chunk}
use Rattle.base.specs.Lists.{list_from}
use Rattle.masks.specs.Masks.{◌∈◌, single}
use Rattle.automaton.specs.declared.Rule.{Rule}
use Rattle.automaton.specs.Rules.{automaton_of, WellFormed}
use Rattle.automaton.specs.Successor.{after}
use Rattle.subsets.specs.Claims.{fits}
use Rattle.automaton.specs.Automaton.{Text}
use Rattle.delegates.specs.Alike.{delegate_in, start_count, start_set}
use Rattle.build.specs.mirror.Building.{built_of}
use Rattle.lanes.specs.mirror.Offsets.{row_of, offsets_of, row_count}
use Rattle.chunks.specs.Chunks.{foreign, counted, delegate_set, run_set, end_set, chunk_count, looked}
use Rattle.chunks.specs.Taking.{TakenExactly}
use Rattle.chunks.specs.Counting.{HowMany, RunsOver, Counts}
use Rattle.chunks.specs.mirror.Walks.{walk_end, walk_count, mask_of, runs_of, delegate_mask, run_mask}

-- every run's set is empty after the text w
abbrev pub AllEmpty : List ℕ → ℕ → List ℕ → Type 0
AllEmpty ts run w = (q : ℕ) → q ∈ run → after ts (single q) w ≡ 0

pub record Claims : Type 0 where
  -- no byte is foreign exactly in a text of symbols below k
  pub text_law : (w : List ℕ) (k : ℕ) → foreign w k ≡ false ↔ Text k w
  -- which chunks are taken
  pub taking : (k : ℕ) (w : List ℕ) → TakenExactly k w
  -- a run from a state of the rule over a text of its symbols ends with the set after the text, and
  -- counts one transition for each successor that is not empty
  pub run_end : (r : Rule) → WellFormed r → fits r → (q : ℕ) → q < r.n → (w : List ℕ) → Text r.k w
      → mask_of (built_of r).sets (walk_end (built_of r).next (get_or (built_of r).singles q 0) w) ≡ after r.targets (single q) w
  pub run_count : (r : Rule) → WellFormed r → fits r → (q : ℕ) → q < r.n → (w : List ℕ) → Text r.k w
      → walk_count (built_of r).next (get_or (built_of r).singles q 0) w ≡ counted r.targets (single q) w
  -- on any table, that is the count which the runner keeps for each run by itself, over row offsets
  -- (`Walked` of the crate blocks), and it is at most one for each byte
  pub own_count : (next : List ℕ) (i : ℕ) (w : List ℕ) → row_count (offsets_of next) w (row_of i) ≡ walk_count next i w
  pub run_most : (next : List ℕ) (i : ℕ) (w : List ℕ) → walk_count next i w ≤ length w
  -- over a text of the rule's symbols, run from states of the rule: each end set is the set after
  -- the text, and the count is document 01's
  pub ends : (r : Rule) → WellFormed r → fits r → (run : ℕ) → run < 2 ^ r.n → (w : List ℕ) → Text r.k w
      → (runs_of (built_of r).sets (built_of r).next (built_of r).singles run w).ends ≡ list_from 0 most_states (end_set r.targets run w)
  pub count : (r : Rule) → WellFormed r → fits r → (run : ℕ) → run < 2 ^ r.n → (w : List ℕ) → Text r.k w
      → (runs_of (built_of r).sets (built_of r).next (built_of r).singles run w).count ≡ chunk_count r.targets run w
  -- what is looked up is R-2's number: the least number of bytes after which every set is empty, or
  -- all bytes where it never comes to that
  pub looks : (r : Rule) → WellFormed r → fits r → (run : ℕ) → run < 2 ^ r.n → (w : List ℕ) → Text r.k w
      → (runs_of (built_of r).sets (built_of r).next (built_of r).singles run w).looked ≡ looked r.targets run w
  pub looked_most : (ts : List ℕ) (run : ℕ) (w : List ℕ) → looked ts run w ≤ length w
  pub looked_all_empty : (ts : List ℕ) (run : ℕ) → run < 2 ^ most_states → (w : List ℕ)
      → looked ts run w < length w → AllEmpty ts run (take (looked ts run w) w)
  pub looked_least : (ts : List ℕ) (run : ℕ) → run < 2 ^ most_states → (w : List ℕ) (i : ℕ)
      → i < looked ts run w → AllEmpty ts run (take i w) → ⊥
  -- a run counts at most one transition for each byte, so a chunk that is run from starts counts at
  -- most M times its bytes
  pub counted_most : (ts : List ℕ) (m : ℕ) (w : List ℕ) → counted ts m w ≤ length w
  pub chunk_most : (ts d : List ℕ) (n run : ℕ) → n ≤ most_states → ((q : ℕ) → q ∈ run → q ∈ start_set d n) → (w : List ℕ)
      → chunk_count ts run w ≤ start_count d n * length w
  -- in other words: what a run from a state counts is how many prefixes of the text there are, the
  -- empty one left out, over which a run of the automaton from that state goes; and what a chunk
  -- counts is how many pairs there are of a state that it is run from and such a prefix
  pub counted_runs : (r : Rule) → WellFormed r → (q : ℕ) → q < r.n → (w : List ℕ)
      → HowMany (λ i. RunsOver (automaton_of r) q (take (suc i) w)) (length w) (counted r.targets (single q) w)
  pub chunk_counts : (r : Rule) → WellFormed r → (run : ℕ) → run < 2 ^ r.n → (w : List ℕ) → length w ≤ longest_chunk
      → HowMany (λ x. Counts r run w (x / longest_chunk) (x % longest_chunk)) (most_states * longest_chunk) (chunk_count r.targets run w)
  -- the members of the starts and of a place's starts, by document 01's words; of at most 32 states
  -- the starts are those that the list of delegates says to be their own
  pub start_law : (d : List ℕ) (n q : ℕ) → q ∈ start_set d n ↔ (q < n) × (get_or d q 0 ≡ q)
  pub start_own : (d : List ℕ) (n q : ℕ) → n ≤ most_states → q ∈ start_set d n ↔ (q < n) × (delegate_in d q ≡ some q)
  pub delegate_law : (d : List ℕ) (n m p : ℕ) → p ∈ delegate_set d n m ↔ (q : ℕ) × (q < n) × (q ∈ m) × (delegate_in d q ≡ some p)
  -- of at most 32 states, what the code takes for the delegates and a place's starts is what they
  -- are
  pub delegate_mask_lem : (d : List ℕ) (n m : ℕ) → n ≤ most_states → delegate_mask d n m ≡ delegate_set d n m
  pub run_mask_lem : (d : List ℕ) (n m : ℕ) → n ≤ most_states → (place : ℕ) → run_mask d n m place ≡ run_set d n m place
