-- A board that is filled with a list of chunks; proofs/Claims.antt proves what is claimed of it.
-- Whoever judges chunks in another way compares with it.
--
--   Filled h r ws      after the calls h a board is there with the rule r, and at its places stand
--                      the chunks ws, none of which is missing
--   TakenAll k ws      each of the chunks ws is taken by a rule of k symbols
use Rattle.std.specs.Prelude.{◌≡◌, ◌↔◌, ◌⊎◌, true, ℕ, ◌≤◌, ◌<◌, length, get_or}
use mathlib.Core.List.{List, [], map, flatten}
use Rattle.std.proofs.Math.Option.{none, some}
use Rattle.limits.specs.Limits.{most_places}
use Rattle.marks.specs.Marks.{text_of}
use Rattle.automaton.specs.declared.Rule.{Rule}
use Rattle.automaton.specs.Rules.{WellFormed}
use Rattle.subsets.specs.Claims.{fits}
use Rattle.chunks.specs.Taking.{chunk_number}
use Rattle.calls.specs.Replies.{refused}
use Rattle.calls.specs.Calls.{Call, delivers, install_number}
use Rattle.histories.specs.History.{rule_there, board_in, places_in, standing, empties_in, text_in, answer_of}

pub record Filled (h : List Call) (r : Rule) (ws : List (List ℕ)) : Type 0 where
  pub rule : rule_there h ≡ some r
  pub board : board_in h ≡ true
  pub places : places_in h ≡ length ws
  pub stands : (p : ℕ) → p < length ws → standing h p ≡ some (get_or ws p [])

abbrev pub TakenAll : ℕ → List (List ℕ) → Type 0
TakenAll k ws = (i : ℕ) → i < length ws → chunk_number k (get_or ws i []) ≡ none

pub record Claims : Type 0 where
  -- a board on which no place is empty is filled so
  pub filled : (h : List Call) (r : Rule) → rule_there h ≡ some r → board_in h ≡ true → empties_in h ≡ 0 → (ws : List (List ℕ)) × Filled h r ws
  -- and 1 to 64 chunks that are taken fill a board
  pub fillings : (r : Rule) → install_number r ≡ none → (ws : List (List ℕ)) → 1 ≤ length ws → length ws ≤ most_places → TakenAll r.k ws
      → (h : List Call) × Filled h r ws
  -- what stands there was taken; none of it is missing, and its texts joined are the text
  pub taken : (h : List Call) (r : Rule) (ws : List (List ℕ)) → Filled h r ws → TakenAll r.k ws
  pub none_missing : (h : List Call) (r : Rule) (ws : List (List ℕ)) → Filled h r ws → empties_in h ≡ 0
  pub text_is : (h : List Call) (r : Rule) (ws : List (List ℕ)) → Filled h r ws → text_in h ≡ flatten (map text_of ws)
  -- the rule that is there is well formed and has at most 512 sets: installing accepts it
  pub well : (h : List Call) (r : Rule) → rule_there h ≡ some r → WellFormed r × fits r
  pub installs : (h : List Call) (r : Rule) → rule_there h ≡ some r → install_number r ≡ none
  -- a chunk is refused with 12 or 13 exactly where a delivery of it to a place of a board is
  pub as_delivered : (h : List Call) (r : Rule) → rule_there h ≡ some r → (p v : ℕ) → p < places_in h → (w : List ℕ)
      → (x : ℕ) → (x ≡ 12) ⊎ (x ≡ 13) → (chunk_number r.k w ≡ some x) ↔ (answer_of h (delivers p v w) ≡ refused x)
