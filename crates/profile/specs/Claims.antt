-- What a profile is and says, for every rule that building accepts; proofs/Claims.antt proves it.
--
--   Takes r           building accepts the rule r: there is a profile of it
--   ManyMappings r    513 texts have mappings of which no two are the same
--   RefusedExactly r which number building is refused with, condition by condition
--   AllZero p         every number of the profile p is 0
--   next_in p i s     the table's cell for mapping i and symbol s
--   Machine r p       p is 000's simultaneous automaton of the rule r: its states are the mappings
--                     of texts, each with one number, the identity first, in the order of their
--                     first texts; and a symbol leads from f to f • δ^σ
--   RunsExactly p w   what a run of the chunk w on the profile p answers, condition by condition
use Rattle.std.specs.Prelude.{◌≡◌, ◌↔◌, ◌⊎◌, true, ℕ, ◌+◌, ◌*◌, ◌≤◌, ◌<◌, length, get_or, replicate}
use mathlib.Core.List.{List, [], map, flatten}
use Rattle.std.proofs.Math.Option.{none, some}
use Rattle.limits.specs.Limits.{most_symbols, most_sets, table_cells, longest_chunk}
use Rattle.masks.specs.Masks.{◌∈◌}
use Rattle.marks.specs.Marks.{text_of}
use Rattle.automaton.specs.declared.Rule.{Rule}
use Rattle.automaton.specs.Automaton.{Text, Accepts}
use Rattle.automaton.specs.Rules.{automaton_of, WellFormed}
use Rattle.rulecheck.specs.Checking.{rule_number}
use Rattle.chunks.specs.Chunks.{foreign}
use Rattle.compositions.specs.Bracketing.{Bracketed, leaves, value_of}
use Rattle.mappings.specs.Mappings.{mapped_states, compose, identity, letter}
use Rattle.mappings.specs.Claims.{Small, mapping_after, InOrder}
use Rattle.profile.specs.declared.Profile.{Profile}
use Rattle.profile.specs.Profiles.{build_number, profile_of, build_of}
use Rattle.profile.specs.Runs.{mapping_in, run_of, verdict_of}
use Rattle.profile.specs.Worked.{profiles, Answered}

module _ (r : Rule) where
  abbrev pub Takes : Type 0
  Takes = build_number r ≡ none

  abbrev pub ManyMappings : Type 0
  ManyMappings =
      (text : ℕ → List ℕ) × ((i : ℕ) → i < most_sets + 1 → Text r.k (text i))
      × ((i j : ℕ) → i < most_sets + 1 → j < most_sets + 1 → mapping_after r (text i) ≡ mapping_after r (text j) → i ≡ j)

  pub record RefusedExactly : Type 0 where
    -- 3, 4, 6 and 8 as installing gives them
    pub checked : (x : ℕ) → x ≤ 8 → (build_number r ≡ some x) ↔ (rule_number r ≡ some x)
    -- more than eight states
    pub number_33 : (build_number r ≡ some 33) ↔ (WellFormed r × (mapped_states < r.n))
    -- at most eight, and more than 512 mappings
    pub number_34 : (build_number r ≡ some 34) ↔ (Small r × ManyMappings)
    -- no other number
    pub no_other : (x : ℕ) → build_number r ≡ some x → (x ≤ 8) ⊎ (x ≡ 33) ⊎ (x ≡ 34)

abbrev pub AllZero : Profile → Type 0
AllZero p =
    (p.n ≡ 0) × (p.k ≡ 0) × (p.initials ≡ 0) × (p.finals ≡ 0) × (p.count ≡ 0)
    × (p.mappings ≡ replicate most_sets 0) × (p.next ≡ replicate table_cells 0)

abbrev pub next_in : Profile → ℕ → ℕ → ℕ
next_in p i s = get_or p.next (i * most_symbols + s) 0

module _ (r : Rule) (p : Profile) where
  pub record Machine : Type 0 where
    -- the rule's own numbers; at most 512 mappings
    pub head : (p.n ≡ r.n) × (p.k ≡ r.k) × (p.initials ≡ r.initials) × (p.finals ≡ r.finals)
    pub most : p.count ≤ most_sets
    -- number 0 is the identity; each is the mapping of a text; that of each text has a number, and
    -- no two are the same
    pub start : (0 < p.count) × (mapping_in p 0 ≡ identity r.n)
    pub sound : (i : ℕ) → i < p.count → (w : List ℕ) × Text r.k w × (mapping_in p i ≡ mapping_after r w)
    pub complete : (w : List ℕ) → Text r.k w → (i : ℕ) × (i < p.count) × (mapping_in p i ≡ mapping_after r w)
    pub once : (i j : ℕ) → i < p.count → j < p.count → mapping_in p i ≡ mapping_in p j → i ≡ j
    pub order : InOrder r (mapping_in p) p.count
    -- a cell is the number of the mapping that its symbol leads to
    pub table : (i s : ℕ) → i < p.count → s < r.k
        → (next_in p i s < p.count) × (mapping_in p (next_in p i s) ≡ compose (mapping_in p i) (letter r.targets s))
    -- zeros elsewhere: past the last mapping, and in a cell of no mapping or no symbol
    pub no_mapping_lem : (i : ℕ) → p.count ≤ i → get_or p.mappings i 0 ≡ 0
    pub no_cell : (i s : ℕ) → s < most_symbols → (p.count ≤ i) ⊎ (r.k ≤ s) → next_in p i s ≡ 0

-- on any profile
pub record RunsExactly (p : Profile) (w : List ℕ) : Type 0 where
  pub refused_12 : ((run_of p w).refusal ≡ some 12) ↔ (longest_chunk < length w)
  pub refused_13 : ((run_of p w).refusal ≡ some 13) ↔ ((length w ≤ longest_chunk) × (foreign (text_of w) p.k ≡ true))
  pub no_other : (x : ℕ) → (run_of p w).refusal ≡ some x → (x ≡ 12) ⊎ (x ≡ 13)
  -- a refusal carries zeros
  pub zeros : (x : ℕ) → (run_of p w).refusal ≡ some x → (run_of p w).masks ≡ replicate mapped_states 0

pub record Claims : Type 0 where
  -- profiles worked by hand are what stands beside them
  pub answered : Answered profiles
  -- building
  pub takes : (r : Rule) → Takes r ↔ (Small r × (ManyMappings r → ⊥))
  pub refused : (r : Rule) → RefusedExactly r
  pub machine : (r : Rule) → Takes r → Machine r (profile_of r)
  -- a refusal carries zeros
  pub zeros : (r : Rule) (x : ℕ) → build_number r ≡ some x → AllZero (build_of r).profile
  -- running: on any profile what is refused; on one that was built the mapping of the chunk's text
  pub runs : (p : Profile) (w : List ℕ) → RunsExactly p w
  pub ran : (r : Rule) → Takes r → (w : List ℕ) → (run_of (profile_of r) w).refusal ≡ none → (run_of (profile_of r) w).masks ≡ mapping_after r (text_of w)
  -- the verdict of any eight masks: yes exactly where the mask of an initial state has a final one
  pub verdict : (r : Rule) → Takes r → (f : List ℕ)
      → (verdict_of (profile_of r) f ≡ true) ↔ (q : ℕ) × (p : ℕ) × (q ∈ r.initials) × (p ∈ get_or f q 0) × (p ∈ r.finals)
  -- bits at n or above, and masks from n on, mean nothing
  pub means_nothing : (r : Rule) → Takes r → (f g : List ℕ) → ((q p : ℕ) → q < r.n → p < r.n → (p ∈ get_or f q 0) ↔ (p ∈ get_or g q 0))
      → verdict_of (profile_of r) f ≡ verdict_of (profile_of r) g
  -- chunks run one by one, on whatever machines, and their mappings composed in any way: it says
  -- yes exactly where the rule accepts the chunks' texts joined
  pub says : (r : Rule) → Takes r → (ws : List (List ℕ)) → ((i : ℕ) → i < length ws → (run_of (profile_of r) (get_or ws i [])).refusal ≡ none)
      → (t : Bracketed (List ℕ)) → leaves t ≡ map (λ w. (run_of (profile_of r) w).masks) ws
      → (verdict_of (profile_of r) (value_of compose t) ≡ true) ↔ Accepts (automaton_of r) (flatten (map text_of ws))
