-- When a call after the calls h is accepted, and when it is refused with which number (document 01,
-- "Numbers caused by the input" and "by the state"), spelt out condition by condition and without
-- the lists of crates/calls. proofs/Conditions.antt proves it.
--
--   AcceptedExactly, RefusedExactly     the calls but the verdict, condition by condition
--   numbers_of c       the numbers that document 01 gives to the call c ("Order: open 20, 10.
--                      Deliver 21, .."; to an installation document 02, R-3), the verdict's too
--   NoOtherNumber      "A number is returned when its condition holds .., never otherwise": a call
--                      is refused with none but these. proofs/NoOther.antt proves it
use Rattle.std.specs.Prelude.{◌≡◌, ◌↔◌, ◌⊎◌, true, false, ℕ, ◌^◌, ◌≤◌, ◌<◌, length}
use mathlib.Core.List.{List, [], ◌∷◌, Memᴰ as Member}
use Rattle.std.proofs.Math.Option.{none, some}
use Rattle.limits.specs.Limits.{most_states, most_symbols, most_places, longest_chunk}
use Rattle.base.specs.Conditions.{NoneHolds, FirstHolds}
use Rattle.marks.specs.Marks.{text_of}
use Rattle.automaton.specs.declared.Rule.{Rule}
use Rattle.automaton.specs.Rules.{automaton_of, WellFormed}
use Rattle.rulecheck.specs.Claims.{Stray, StatesIn, SymbolsIn, MasksIn}
use Rattle.ruleformat.specs.Refusals.{file_conditions}
use Rattle.ruleformat.specs.Reader.{rule_of}
use Rattle.ruleformat.specs.Language.{automaton_in}
use Rattle.build.specs.mirror.Building.{built_of}
use Rattle.chunks.specs.Chunks.{foreign}
use Rattle.calls.specs.Replies.{accepted, installed, delivered, refused, refusal_of}
use Rattle.calls.specs.Calls.{Call, installs, loads, opens, delivers, withdraws, asks_verdict}
use Rattle.histories.specs.History.{rule_there, rule_in, places_in, looked_of, last_revision, standing, answer_of}
use Rattle.histories.specs.Method.{TooMany}

pub record AcceptedExactly (h : List Call) : Type 0 where
  -- the rule is well formed, and no more than 512 sets are reached in its automaton; it is answered
  -- with the number of sets and the M of the built rule, which `Method` of specs/Method.antt ties to
  -- that automaton
  pub installation : (r : Rule)
      → (answer_of h (installs r) ≡ installed (built_of r).setcount (built_of r).startcount) ↔ (WellFormed r × (TooMany (automaton_of r) → ⊥))
  -- none of the conditions 1 to 8 holds of the file, and no more than 512 sets are reached in the
  -- automaton in its bytes; it is answered with the number of sets and the M of what is built of it
  pub load : (f : List ℕ)
      → (answer_of h (loads f) ≡ installed (built_of (rule_of f)).setcount (built_of (rule_of f)).startcount)
      ↔ (NoneHolds (file_conditions f) × (TooMany (automaton_in f) → ⊥))
  -- a rule is there, and 1 to 64 places are asked for
  pub opening : (n : ℕ) → (answer_of h (opens n) ≡ accepted) ↔ ((rule_there h ≡ none → ⊥) × (1 ≤ n) × (n ≤ most_places))
  -- a board is there with that place, the chunk is within the limit and its text, which is without
  -- its idle marks, within the alphabet, and its revision is greater than the last one accepted
  -- there, if there was one; it is answered for how many bytes a successor is looked up, which
  -- `LookedUp` of crates/transcripts says in document 02's words
  pub delivery : (p v : ℕ) (w : List ℕ) (n : ℕ)
      → (answer_of h (delivers p v w) ≡ delivered n)
      ↔ ((0 < places_in h) × (p < places_in h) × (length w ≤ longest_chunk) × (foreign (text_of w) (rule_in h).k ≡ false)
      × ((last : ℕ) → last_revision h p ≡ some last → last < v)
      × (n ≡ looked_of (rule_in h) p w))
  -- a board is there with that place, and a chunk stands there
  pub withdrawal : (p : ℕ) → (answer_of h (withdraws p) ≡ accepted) ↔ ((0 < places_in h) × (p < places_in h) × (standing h p ≡ none → ⊥))

pub record RefusedExactly (h : List Call) : Type 0 where
  -- n outside 1 to 32; else k outside 1 to 16; else a mask with a bit at n or above; else a target
  -- mask with such a bit, or one kept for a state or symbol outside n or k that is not 0; 9 when
  -- the rule is well formed and more than 512 sets are reached
  pub install_3 : (r : Rule) → (answer_of h (installs r) ≡ refused 3) ↔ ((r.n < 1) ⊎ (most_states < r.n))
  pub install_4 : (r : Rule) → (answer_of h (installs r) ≡ refused 4) ↔ (StatesIn r × ((r.k < 1) ⊎ (most_symbols < r.k)))
  pub install_6 : (r : Rule)
      → (answer_of h (installs r) ≡ refused 6) ↔ (StatesIn r × SymbolsIn r × ((2 ^ r.n ≤ r.initials) ⊎ (2 ^ r.n ≤ r.finals)))
  pub install_8 : (r : Rule) → (answer_of h (installs r) ≡ refused 8) ↔ (StatesIn r × SymbolsIn r × MasksIn r × Stray r)
  pub install_9 : (r : Rule) → (answer_of h (installs r) ≡ refused 9) ↔ (WellFormed r × TooMany (automaton_of r))
  -- 1 to 8 by the file, the first of its conditions that holds; 9 when it passes them and more than
  -- 512 sets are reached in the automaton in its bytes
  pub load_by_file : (f : List ℕ) (x : ℕ) → x ≤ 8 → (answer_of h (loads f) ≡ refused x) ↔ FirstHolds x (file_conditions f)
  pub load_9 : (f : List ℕ) → (answer_of h (loads f) ≡ refused 9) ↔ (NoneHolds (file_conditions f) × TooMany (automaton_in f))
  -- no rule; with a rule, no number of places from 1 to 64
  pub open_20 : (n : ℕ) → (answer_of h (opens n) ≡ refused 20) ↔ (rule_there h ≡ none)
  pub open_10 : (n : ℕ) → (answer_of h (opens n) ≡ refused 10) ↔ ((rule_there h ≡ none → ⊥) × ((n < 1) ⊎ (most_places < n)))
  -- no board; no such place; too long a chunk; a foreign byte; a revision that is not greater than
  -- the last one accepted at the place
  pub deliver_21 : (p v : ℕ) (w : List ℕ) → (answer_of h (delivers p v w) ≡ refused 21) ↔ (places_in h ≡ 0)
  pub deliver_11 : (p v : ℕ) (w : List ℕ) → (answer_of h (delivers p v w) ≡ refused 11) ↔ ((0 < places_in h) × (places_in h ≤ p))
  pub deliver_12 : (p v : ℕ) (w : List ℕ) → (answer_of h (delivers p v w) ≡ refused 12) ↔ ((p < places_in h) × (longest_chunk < length w))
  pub deliver_13 : (p v : ℕ) (w : List ℕ)
      → (answer_of h (delivers p v w) ≡ refused 13) ↔ ((p < places_in h) × (length w ≤ longest_chunk) × (foreign (text_of w) (rule_in h).k ≡ true))
  pub deliver_22 : (p v : ℕ) (w : List ℕ)
      → (answer_of h (delivers p v w) ≡ refused 22)
      ↔ ((p < places_in h) × (length w ≤ longest_chunk) × (foreign (text_of w) (rule_in h).k ≡ false)
      × (last : ℕ) × (last_revision h p ≡ some last) × (v ≤ last))
  -- no board; no such place; the place is empty
  pub withdraw_21 : (p : ℕ) → (answer_of h (withdraws p) ≡ refused 21) ↔ (places_in h ≡ 0)
  pub withdraw_11 : (p : ℕ) → (answer_of h (withdraws p) ≡ refused 11) ↔ ((0 < places_in h) × (places_in h ≤ p))
  pub withdraw_23 : (p : ℕ) → (answer_of h (withdraws p) ≡ refused 23) ↔ ((p < places_in h) × (standing h p ≡ none))

abbrev pub numbers_of : Call → List ℕ
numbers_of (installs r) = 3 ∷ 4 ∷ 6 ∷ 8 ∷ 9 ∷ []
numbers_of (loads f) = 1 ∷ 2 ∷ 3 ∷ 4 ∷ 5 ∷ 6 ∷ 7 ∷ 8 ∷ 9 ∷ []
numbers_of (opens n) = 20 ∷ 10 ∷ []
numbers_of (delivers p v w) = 21 ∷ 11 ∷ 12 ∷ 13 ∷ 22 ∷ []
numbers_of (withdraws p) = 21 ∷ 11 ∷ 23 ∷ []
numbers_of asks_verdict = 21 ∷ []

abbrev pub NoOtherNumber : List Call → Type 0
NoOtherNumber h = (c : Call) (x : ℕ) → refusal_of (answer_of h c) ≡ some x → Member x (numbers_of c)
