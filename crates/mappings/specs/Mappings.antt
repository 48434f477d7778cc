-- Mappings from each state to a set of states (document 000, definition 5; document 02, R-8): a
-- list of eight masks of eight bits, the mask of state q at q. So a mapping has at most eight
-- states. With fewer, n, the masks are 0 from state n on and have no bit from n on.
--
--   mapped_states      the most states of a mapping
--   Value f            f is eight masks of eight bits, whatever they are
--   Within n f         they are those of n states
--   image f m          every state that f maps a member of the set m to
--   compose f g        000's f • g: f is applied first, then g
--   identity n         each of n states is mapped to the set of itself
--   composed fs        the mappings fs composed, the first applied first; none come to the identity
--                      (in any brackets they are `Bracketed` of crates/compositions)
--   letter ts s        000's bound transition function of the symbol s, in a rule with the targets
--                      ts: each state's targets by s
--   mapping_of ts n w  the mapping of the text w, in a rule with the targets ts and n states: for
--                      each of the n states the successor of its singleton by w
use Rattle.std.specs.Prelude.{◌≡◌, cond, List, [], ◌∷◌, ℕ, ◌%◌, ◌^◌, ◌≤◌, ◌<◌, ltb, length, get_or}
use Rattle.base.specs.Lists.{list_from}
use Rattle.masks.specs.Masks.{single}
use Rattle.automaton.specs.Rules.{target_mask}
use Rattle.automaton.specs.Successor.{after}
use Rattle.compositions.specs.Bracketing.{fold_from}
use Rattle.compositions.specs.Relations.{image_of, compose_of}

abbrev pub mapped_states : ℕ
mapped_states = 8

pub record Value (f : List ℕ) : Type 0 where
  pub eight : length f ≡ mapped_states
  pub masks : (q : ℕ) → q < mapped_states → get_or f q 0 < 2 ^ mapped_states

pub record Within (n : ℕ) (f : List ℕ) : Type 0 where
  pub eight : length f ≡ mapped_states
  pub masks : (q : ℕ) → q < mapped_states → get_or f q 0 < 2 ^ n
  pub zeros : (q : ℕ) → q < mapped_states → n ≤ q → get_or f q 0 ≡ 0

abbrev pub image : List ℕ → ℕ → ℕ
image f m = image_of mapped_states f m

abbrev pub compose : List ℕ → List ℕ → List ℕ
compose f g = compose_of mapped_states f g

abbrev pub identity : ℕ → List ℕ
identity n = list_from 0 mapped_states (λ q. cond (ltb q n) (single q) 0)

abbrev pub composed : List (List ℕ) → List ℕ
composed [] = identity mapped_states
composed (f ∷ fs) = fold_from compose f fs

-- ---- texts
-- (a rule of eight states has no target beyond them; a value that has one is cut to eight bits)
abbrev pub letter : List ℕ → ℕ → List ℕ
letter ts s = list_from 0 mapped_states (λ q. target_mask ts q s % 2 ^ mapped_states)

abbrev pub mapping_of : List ℕ → ℕ → List ℕ → List ℕ
mapping_of ts n w = list_from 0 mapped_states (λ q. cond (ltb q n) (after ts (single q) w) 0)
