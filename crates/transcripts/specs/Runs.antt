-- Running what stands (document 01, "Running a chunk"; document 02, R-2 and R-7), by runs of the
-- automaton alone.
--
--   Started a p q        a chunk at place p is run from the state q: at place 0 q is the delegate
--                        of an initial state, at any other place a start, which is its own delegate
--   InEndSet s p q y     y is in the end set of q at place p; where nothing stands, and of a state
--                        that is not run there, no state is
--   Transition s p q i   a run from q goes over the text at place p up to byte i, with that byte:
--                        its successor is not empty, so that it counts
--   CountAt s p c        place p counts c transitions: so many pairs of a state and a byte, as the
--                        number q × 65,536 + i
--   SumIs s c            c is the sum of the counts over all places
--   Dead a p w           over the text w no run at place p goes on: every set is empty
--   LookedUp a p w n     n is the least number of bytes of w after which every set is empty, else
--                        all
--   Joined a e p y       y is in C after the first p places, whose end sets are e: C begins with
--                        the initial states and becomes the union of the end sets of the delegates
--                        of its members; a member without a delegate is passed over
use Rattle.std.specs.Prelude.{◌≡◌, List, ℕ, zero, suc, ◌*◌, ◌/◌, ◌%◌, ◌≤◌, ◌<◌, length, take}
use Rattle.std.proofs.Math.Option.{some}
use Rattle.limits.specs.Limits.{most_states, longest_chunk}
use Rattle.base.specs.Totals.{total}
use Rattle.masks.specs.Masks.{◌∈◌}
use Rattle.marks.specs.Marks.{text_of}
use Rattle.automaton.specs.Automaton.{Automaton, Run}
use Rattle.delegates.specs.Alike.{Delegate}
use Rattle.chunks.specs.Counting.{HowMany, RunsOver}
use Rattle.transcripts.specs.Standing.{Standing, the_automaton, text_at}

abbrev pub Started : Automaton → ℕ → ℕ → Type 0
Started a zero q = (x : ℕ) × a.Initial x × Delegate a x (some q)
Started a (suc p) q = Delegate a q (some q)

module _ (s : Standing) where
  abbrev pub InEndSet : ℕ → ℕ → ℕ → Type 0
  InEndSet p q y = (w : List ℕ) × (s.chunk p ≡ some w) × Started (the_automaton s) p q × Run (the_automaton s) q (text_of w) y

  abbrev pub Transition : ℕ → ℕ → ℕ → Type 0
  Transition p q i =
      Started (the_automaton s) p q × (i < length (text_at s p)) × RunsOver (the_automaton s) q (take (suc i) (text_at s p))

  abbrev pub CountAt : ℕ → ℕ → Type 0
  CountAt p c = HowMany (λ x. Transition p (x / longest_chunk) (x % longest_chunk)) (most_states * longest_chunk) c

  abbrev pub SumIs : ℕ → Type 0
  SumIs c = (f : ℕ → ℕ) × ((p : ℕ) → p < s.places → CountAt p (f p)) × (c ≡ total f s.places)

abbrev pub Dead : Automaton → ℕ → List ℕ → Type 0
Dead a p w = (q : ℕ) → Started a p q → RunsOver a q w → ⊥

pub record LookedUp (a : Automaton) (p : ℕ) (w : List ℕ) (n : ℕ) : Type 0 where
  pub most : n ≤ length w
  pub all-empty : n < length w → Dead a p (take n w)
  pub least : (i : ℕ) → i < n → Dead a p (take i w) → ⊥

abbrev pub Joined : Automaton → (ℕ → ℕ → ℕ) → ℕ → ℕ → Type 0
Joined a e zero y = a.Initial y
Joined a e (suc p) y = (x d : ℕ) × Joined a e p x × Delegate a x (some d) × (y ∈ e p d)
