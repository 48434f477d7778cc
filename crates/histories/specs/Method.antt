-- Demand 2 of a rule that an installation accepts: what the built rule has is what documents 000
-- and 004 give to the rule's automaton and, of a file that a load accepts, to the automaton that its
-- bytes state. proofs/Method.antt proves both.
--
--   Leads a q w m   m is the set of the states to which a run over the text w leads from the state
--                   q
--   Moves a l s m   m is the set of the states to which an arc by the symbol s leads from a member
--                   of l
--   numbered_in b m  the set m has a number in the built rule b
--   TooMany a       more than 512 sets are reached: 513 distinct ones, none of them empty
--   Method a b      the sets, the next-set table, the delegates and M of b are those of the
--                   automaton a
use Rattle.std.specs.Prelude.{◌≡◌, ◌↔◌, ◌⊎◌, List, ℕ, ◌+◌, ◌*◌, ◌<◌, length, get_or}
use Rattle.limits.specs.Limits.{most_symbols, most_sets, empty_set}
use Rattle.masks.specs.Masks.{◌∈◌}
use Rattle.automaton.specs.Automaton.{Automaton, Arc, Run}
use Rattle.numbering.specs.Order.{InOrder}
use Rattle.numbering.specs.Claims.{Distinct}
use Rattle.delegates.specs.Alike.{Merged}
use Rattle.build.specs.declared.Built.{Built}

abbrev pub Leads : Automaton → ℕ → List ℕ → ℕ → Type 0
Leads a q w m = (p : ℕ) → p ∈ m ↔ Run a q w p

abbrev pub Moves : Automaton → ℕ → ℕ → ℕ → Type 0
Moves a l s m = (p : ℕ) → p ∈ m ↔ (q : ℕ) × (q ∈ l) × Arc a q s p

module _ (b : Built) where
  abbrev pub set_at : ℕ → ℕ
  set_at i = get_or b.sets i 0

  abbrev pub next_at : ℕ → ℕ → ℕ
  next_at i s = get_or b.next (i * most_symbols + s) 0

  abbrev pub numbered_in : ℕ → Type 0
  numbered_in m = (i : ℕ) × (i < b.setcount) × (set_at i ≡ m)

-- more than 512 sets are reached
abbrev pub TooMany : Automaton → Type 0
TooMany a =
    (l : List ℕ) × (length l ≡ most_sets + 1) × Distinct l
    × ((i : ℕ) → i < most_sets + 1 → (get_or l i 0 ≡ 0 → ⊥) × (q : ℕ) × (q < a.n) × (w : List ℕ) × Leads a q w (get_or l i 0))

pub record Method (a : Automaton) (b : Built) : Type 0 where
  -- a set has a number exactly when it is not empty and some state and text lead to it, and then it
  -- has one number
  pub sets : (m : ℕ) → numbered_in b m ↔ (m ≡ 0 → ⊥) × (q : ℕ) × (q < a.n) × (w : List ℕ) × Leads a q w m
  pub once : (i j : ℕ) → i < b.setcount → j < b.setcount → set_at b i ≡ set_at b j → i ≡ j
  -- sets are numbered in the order of their first states, and then of their first texts from these
  pub order : InOrder a.n (Leads a) (set_at b) b.setcount
  -- a cell of the table is the number of the set to which the arcs by its symbol lead, or 512 where
  -- they lead nowhere
  pub table : (i s : ℕ) → i < b.setcount → s < a.k
      → ((next_at b i s < b.setcount) × Moves a (set_at b i) s (set_at b (next_at b i s))) ⊎ ((next_at b i s ≡ empty_set) × Moves a (set_at b i) s 0)
  -- its delegates are, for each state from which a final state can be reached, the lowest alike
  -- one, and none for any other, with zeros after them; its number of starts is M
  pub delegates : Merged a b.delegates b.startcount
