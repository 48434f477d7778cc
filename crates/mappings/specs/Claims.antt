-- What makes mappings fit to judge by; proofs/Claims.antt proves it.
--
--   Small r            a rule that passes the check and has at most eight states
--   mapping_after r w  the mapping of the text w
--   keys_of r           the numbers of the mappings of the rule r, in number order
--   mapping_at r i     mapping number i
--   many r             there are more than 512
--   First r f w        w is the first text whose mapping is f: the shortest, and the first by
--                      symbols among the shortest
--   InOrder r at c     the mappings at 0, .. at (c − 1) stand in the order of their first texts
use Rattle.std.specs.Prelude.{◌≡◌, ◌↔◌, true, ℕ, ◌+◌, ◌^◌, ◌≤◌, ◌<◌, length, get_or}
use mathlib.Core.List.{List, [], ◌∷◌, ◌++◌, map, flatten}
use Rattle.limits.specs.Limits.{most_sets}
use Rattle.masks.specs.Masks.{◌∈◌, shares}
use Rattle.automaton.specs.declared.Rule.{Rule}
use Rattle.automaton.specs.Automaton.{Text, Run, Accepts}
use Rattle.automaton.specs.Rules.{automaton_of, WellFormed}
use Rattle.numbering.specs.Numbering.{next_of}
use Rattle.numbering.specs.Texts.{Sooner, NoLater}
use Rattle.compositions.specs.Bracketing.{Bracketed, leaves, value_of}
use Rattle.mappings.specs.Mappings.{mapped_states, Value, Within, image, compose, identity, composed, letter, mapping_of}
use Rattle.mappings.specs.Packing.{pack, unpack, mapping_walk, mapping_keys}

pub record Small (r : Rule) : Type 0 where
  pub good : WellFormed r
  pub states : r.n ≤ mapped_states

module _ (r : Rule) where
  abbrev pub mapping_after : List ℕ → List ℕ
  mapping_after w = mapping_of r.targets r.n w

  abbrev pub keys_of : List ℕ
  keys_of = mapping_keys r.targets r.n r.k

  abbrev pub mapping_at : ℕ → List ℕ
  mapping_at i = unpack (get_or keys_of i 0)

  abbrev pub few : Type 0
  few = length keys_of ≤ most_sets

  abbrev pub many : Type 0
  many = most_sets < length keys_of

  pub record First (f w : List ℕ) : Type 0 where
    pub symbols : Text r.k w
    pub is : mapping_after w ≡ f
    pub no_sooner : (v : List ℕ) → Text r.k v → mapping_after v ≡ f → NoLater w v

  pub record InOrder (at : ℕ → List ℕ) (c : ℕ) : Type 0 where
    pub text : ℕ → List ℕ
    pub first : (i : ℕ) → i < c → First (at i) (text i)
    pub rises : (i j : ℕ) → i < j → j < c → Sooner (text i) (text j)

pub record Claims : Type 0 where
  -- ---- of all values
  -- 000's words for f • g: the union of the sets g r over the members r of the set f q
  pub members : (f g : List ℕ) (q p : ℕ) → q < mapped_states
      → p ∈ get_or (compose f g) q 0 ↔ (r : ℕ) × (r < mapped_states) × (r ∈ get_or f q 0) × (p ∈ get_or g r 0)
  pub composes : (f g : List ℕ) → Value g → Value (compose f g)
  pub associative : (f g h : List ℕ) → compose (compose f g) h ≡ compose f (compose g h)
  -- however mappings are bracketed, it comes to the same
  pub brackets : (t : Bracketed (List ℕ)) → value_of compose t ≡ composed (leaves t)
  pub bracketing : (x y : Bracketed (List ℕ)) → leaves x ≡ leaves y → value_of compose x ≡ value_of compose y
  -- the identity of n states changes no mapping of n states, that of eight no value
  pub identity_first : (n : ℕ) → n ≤ mapped_states → (f : List ℕ) → Within n f → compose (identity n) f ≡ f
  pub identity_last : (n : ℕ) → n ≤ mapped_states → (f : List ℕ) → Within n f → compose f (identity n) ≡ f
  pub values : (f : List ℕ) → Value f ↔ Within mapped_states f
  -- a mapping and its number
  pub unpacked : (f : List ℕ) → Value f → unpack (pack f) ≡ f
  pub packed : (f : List ℕ) → Value f → pack f < 2 ^ 64
  pub repacked : (x : ℕ) → x < 2 ^ 64 → pack (unpack x) ≡ x
  -- ---- of every rule with at most eight states
  -- a text's mapping has the states to which runs over it lead, and is one of n states
  pub runs : (r : Rule) → Small r → (w : List ℕ) (q p : ℕ) → q < r.n → p ∈ get_or (mapping_after r w) q 0 ↔ Run (automaton_of r) q w p
  pub within : (r : Rule) → Small r → (w : List ℕ) → Within r.n (mapping_after r w)
  -- the mapping of no bytes, of one symbol more, and of two texts joined
  pub of_nothing : (r : Rule) → mapping_after r [] ≡ identity r.n
  pub of_one_more : (r : Rule) → Small r → (w : List ℕ) (s : ℕ) → mapping_after r (w ++ (s ∷ [])) ≡ compose (mapping_after r w) (letter r.targets s)
  pub of_both : (r : Rule) → Small r → (v w : List ℕ) → mapping_after r (v ++ w) ≡ compose (mapping_after r v) (mapping_after r w)
  -- and of texts one behind the other
  pub of_all : (r : Rule) → Small r → (w : List ℕ) (ws : List (List ℕ)) → composed (map (mapping_after r) (w ∷ ws)) ≡ mapping_after r (flatten (w ∷ ws))
  -- a text is accepted exactly where its mapping leads from an initial state to a final one
  pub says : (r : Rule) → Small r → (w : List ℕ)
      → Accepts (automaton_of r) w ↔ (shares (image (mapping_after r w) r.initials) r.finals ≡ true)
  -- ---- and of its numbered mappings
  -- number 0 is the identity; each is the mapping of a text, and no two are the same
  pub start : (r : Rule) → Small r → mapping_at r 0 ≡ identity r.n
  pub sound : (r : Rule) → Small r → (i : ℕ) → i < length (keys_of r) → (w : List ℕ) × Text r.k w × (mapping_at r i ≡ mapping_after r w)
  pub once : (r : Rule) → Small r → (i j : ℕ) → i < length (keys_of r) → j < length (keys_of r) → mapping_at r i ≡ mapping_at r j → i ≡ j
  -- with at most 512, the mapping of each text has a number
  pub complete : (r : Rule) → Small r → few r → (w : List ℕ) → Text r.k w
      → (i : ℕ) × (i < length (keys_of r)) × (mapping_at r i ≡ mapping_after r w)
  -- with at most 512, a cell is the number of the mapping that a symbol leads to
  pub cell : (r : Rule) → Small r → few r → (i s : ℕ) → i < length (keys_of r) → s < r.k
      → (next_of (mapping_walk r.targets r.k) (keys_of r) i s < length (keys_of r))
      × (mapping_at r (next_of (mapping_walk r.targets r.k) (keys_of r) i s) ≡ compose (mapping_at r i) (letter r.targets s))
  -- with at most 512, they stand in the order of their first texts
  pub in_order : (r : Rule) → Small r → few r → InOrder r (mapping_at r) (length (keys_of r))
  -- there are more than 512 exactly where 513 texts have mappings of which no two are the same
  pub over : (r : Rule) → Small r
      → many r ↔ (text : ℕ → List ℕ) × ((i : ℕ) → i < most_sets + 1 → Text r.k (text i))
      × ((i j : ℕ) → i < most_sets + 1 → j < most_sets + 1 → mapping_after r (text i) ≡ mapping_after r (text j) → i ≡ j)
