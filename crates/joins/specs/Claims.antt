-- The theorem of the join and the bound on the count, for every well-formed rule with its delegates
-- and every list of chunks; proofs/Claims.antt proves them. C need not be the set of states that
-- the automaton reaches: both accept the same texts, and no more is claimed.
--
--   Texts k ws         each chunk is a text of symbols below k
--   HoldsEnds r d e ws     each place holds, for each state, the end set that document 01 gives to
--                          its chunk there
--   count_of r d ws     the sum of the chunks' counts
use Rattle.std.specs.Prelude.{◌≡◌, ◌↔◌, true, ℕ, ◌*◌, ◌≤◌, ◌<◌, length, get_or}
use mathlib.Core.List.{List, [], ◌∷◌, flatten}
use Rattle.std.proofs.Math.Option.{Option, some}
use Rattle.limits.specs.Limits.{most_states}
use Rattle.base.specs.Totals.{total}
use Rattle.automaton.specs.declared.Rule.{Rule}
use Rattle.automaton.specs.Automaton.{Accepts, Text}
use Rattle.automaton.specs.Rules.{automaton_of, WellFormed}
use Rattle.delegates.specs.Alike.{delegate_in, Merged}
use Rattle.chunks.specs.Chunks.{run_set, end_set, chunk_count}
use Rattle.board.specs.Boards.{held_in}
use Rattle.joins.specs.Joining.{join_of, yes_of, join_up_to}

abbrev pub Texts : ℕ → List (List ℕ) → Type 0
Texts k [] = Unit {0}
Texts k (w ∷ ws) = Text k w × Texts k ws

module _ (r : Rule) (d : List ℕ) where
  abbrev pub HoldsEnds : (ℕ → ℕ → ℕ) → List (List ℕ) → Type 0
  HoldsEnds e ws =
      (p : ℕ) → p < length ws → (q : ℕ) → q < r.n
      → e p q ≡ end_set r.targets (run_set d r.n r.initials p) (get_or ws p []) q

  abbrev pub count_of : List (List ℕ) → ℕ
  count_of ws = total (λ p. chunk_count r.targets (run_set d r.n r.initials p) (get_or ws p [])) (length ws)

pub record Claims : Type 0 where
  -- the join says yes exactly where the rule's automaton has an accepting run over the chunks
  -- joined in order
  pub join : (r : Rule) → WellFormed r → (d : List ℕ) (m : ℕ) → Merged (automaton_of r) d m
      → (e : ℕ → ℕ → ℕ) (ws : List (List ℕ)) → Texts r.k ws → HoldsEnds r d e ws
      → (yes_of e (delegate_in d) r.n r.initials r.finals (length ws) ≡ true) ↔ Accepts (automaton_of r) (flatten ws)
  -- of at most 32 states the code's join is this join of what the arrays hold
  pub join_law : (ends d : List ℕ) (n m p : ℕ) → n ≤ most_states
      → join_up_to ends d n m p ≡ join_of (held_in ends) (delegate_in d) n m p
  -- it looks only at the end sets of delegates at the places that are joined
  pub join_same : (e f : ℕ → ℕ → ℕ) (d : ℕ → Option ℕ) (n m p : ℕ)
      → ((i q x : ℕ) → i < p → q < n → d q ≡ some x → e i x ≡ f i x)
      → join_of e d n m p ≡ join_of f d n m p
  -- a chunk counts at most M times its bytes at its place, and so the summed count is at most M
  -- times the bytes
  pub place_most : (r : Rule) → WellFormed r → (d : List ℕ) (m : ℕ) → Merged (automaton_of r) d m → (p : ℕ) (w : List ℕ)
      → chunk_count r.targets (run_set d r.n r.initials p) w ≤ m * length w
  pub count_most : (r : Rule) → WellFormed r → (d : List ℕ) (m : ℕ) → Merged (automaton_of r) d m → (ws : List (List ℕ))
      → count_of r d ws ≤ m * length (flatten ws)
