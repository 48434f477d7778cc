-- Demand 3, one claim over a whole list: what holds of the replies to every list of calls, and of
-- the judge that is left. proofs/EveryList.antt proves it.
--
--   least_after last  one more than the last revision, 0 where there is none: so the board keeps it
--   SameBuilt k b c   the built rules b and c have the same sets, table, delegates and M
--   Holds s j         the judge j holds what stands: the rule, built as document 004 has it, and at
--                     each place the end sets, the count, the length and the revision
--   SameBoard j k     the judges j and k hold the same at each place
--   VerdictIs s a     what the reply a to a verdict says, where s stands
--   OneAnswer         the words fix every reply
use Rattle.std.specs.Prelude.{◌≡◌, ◌↔◌, true, List, ℕ, ◌*◌, ◌≤◌, ◌<◌, length, get_or}
use Rattle.std.proofs.Math.Option.{none, some}
use Rattle.limits.specs.Limits.{most_states, most_places}
use Rattle.masks.specs.Masks.{◌∈◌}
use Rattle.automaton.specs.Automaton.{Accepts}
use Rattle.build.specs.declared.Built.{Built}
use Rattle.board.specs.Boards.{held, is_empty, last_at}
use Rattle.calls.specs.declared.Judge.{Judge}
use Rattle.calls.specs.Replies.{Reply, waiting, yes_with, no_with, refused_with}
use Rattle.calls.specs.Calls.{Call}
use Rattle.histories.specs.Method.{set_at, next_at, Method}
use Rattle.histories.specs.Claims.{least_after, Says}
use Rattle.transcripts.specs.Standing.{Source, automaton_by, Standing, the_automaton, text_at, text_in, empties}
use Rattle.transcripts.specs.Runs.{InEndSet, CountAt, SumIs, Joined}
use Rattle.transcripts.specs.Answers.{Right}

pub record SameBuilt (k : ℕ) (b c : Built) : Type 0 where
  pub sets : b.setcount ≡ c.setcount
  pub set : (i : ℕ) → i < b.setcount → set_at b i ≡ set_at c i
  pub cell : (i s : ℕ) → i < b.setcount → s < k → next_at b i s ≡ next_at c i s
  pub delegates : b.delegates ≡ c.delegates
  pub starts : b.startcount ≡ c.startcount

pub record Holds (s : Standing) (j : Judge) : Type 0 where
  -- demand 2: its sets, next-set table, delegates and M are those of the automaton
  pub method : (x : Source) → s.rule ≡ some x → Method (automaton_by x) j.built
  pub places : j.board.places ≡ s.places
  pub empty : (p : ℕ) → p < most_places → (is_empty j.board p ≡ true) ↔ (s.chunk p ≡ none)
  -- "The place then holds the chunk's end sets and count; a start that was not run there has the
  -- empty end set"; withdrawn, "its end sets empty and its count 0"
  pub ends : (p q : ℕ) → p < most_places → q < most_states → (y : ℕ) → y ∈ held j.board p q ↔ InEndSet s p q y
  pub counts : (p : ℕ) → p < most_places → CountAt s p (get_or j.board.counts p 0)
  pub lengths : (p : ℕ) → p < most_places → get_or j.board.lengths p 0 ≡ length (text_at s p)
  pub revisions : (p : ℕ) → p < most_places → last_at j.board p ≡ least_after (s.revision p)
  -- the yes or no is document 01's join of the end sets that are held
  pub joined : 0 < s.places → empties s ≡ 0
      → ((y : ℕ) × Joined (the_automaton s) (held j.board) s.places y × (the_automaton s).Final y) ↔ Accepts (the_automaton s) (text_in s)
  -- the sum is at most merged starts times bytes, as at each place
  pub most : (c : ℕ) → 0 < s.places → SumIs s c → c ≤ j.built.startcount * length (text_in s)
  pub place_most : (p c : ℕ) → p < s.places → CountAt s p c → c ≤ j.built.startcount * length (text_at s p)

pub record SameBoard (j k : Judge) : Type 0 where
  pub places : j.board.places ≡ k.board.places
  pub empty : (p : ℕ) → p < most_places → is_empty j.board p ≡ is_empty k.board p
  pub ends : (p q : ℕ) → p < most_places → q < most_states → held j.board p q ≡ held k.board p q
  pub counts : (p : ℕ) → p < most_places → get_or j.board.counts p 0 ≡ get_or k.board.counts p 0
  pub lengths : (p : ℕ) → p < most_places → get_or j.board.lengths p 0 ≡ get_or k.board.lengths p 0
  pub revisions : (p : ℕ) → p < most_places → last_at j.board p ≡ last_at k.board p

pub record VerdictIs (s : Standing) (a : Reply) : Type 0 where
  -- yes exactly when a board is there, no place is empty and the rule has an accepting run over the
  -- standing chunks without their idle marks, joined by place; no exactly when it has none; both
  -- with the sum of the counts
  pub says_yes_lem : (c : ℕ) → Says a (yes_with c) ↔ ((0 < s.places) × (empties s ≡ 0) × SumIs s c × Accepts (the_automaton s) (text_in s))
  pub says_no_lem : (c : ℕ) → Says a (no_with c) ↔ ((0 < s.places) × (empties s ≡ 0) × SumIs s c × (Accepts (the_automaton s) (text_in s) → ⊥))
  -- waiting exactly when a place is empty, with the number of these
  pub says_waiting : (e : ℕ) → Says a (waiting e) ↔ ((0 < s.places) × (0 < e) × (e ≡ empties s))
  -- refused, and then with 21, exactly when no board is there
  pub says_refused : (x : ℕ) → Says a (refused_with x) ↔ ((x ≡ 21) × (s.places ≡ 0))

abbrev pub OneAnswer : Type 0
OneAnswer = (h : List Call) (rs qs : List Reply) → Right h rs → Right h qs → rs ≡ qs
