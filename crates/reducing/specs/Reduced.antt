-- The reduced rule, as a value: dead and unreachable states go, alike states become the lowest
-- reachable one of them, and what is left is numbered anew from 0 in its old order. d lists what
-- stands for each state: its delegate, or the state itself, or the lowest reachable one alike to
-- it.
--
--   gather f n              the union of the sets f 0, f 1, .. f (n − 1)
--   delegated d m           what stands for the members of m: none for a state that leads nowhere
--   onward ts d m           m, with what stands for every target of an arc from a member of m
--   rounds ts d m i         what at most i such steps lead to from m
--   kept_of ts d initials   the states that stay: what any number of steps leads to from what
--                           stands for the initial states. There are at most 32 states, so 32 steps
--                           are enough
--   own_list                the list in which each state stands for itself
--   reached_of ts initials  the states that are reached from an initial state
--   chosen_of d reached      the list in which the lowest reached state with the same delegate
--                           stands for each reached state, and none for one that has none
--                           (the new number of a state q is masks' rank kept q: how many states
--                           that stay are below q)
--   renamed kept m          the new numbers of the members of m that stay
--   row_of .. p s q          the new targets of the old state q where its new number is p, else none
--   targets_of .. p s       the targets of the new state p by the symbol s
--   cell_in .. cell         a cell of the new table, 0 for what is no state of it
--   reduced_by r d kept     the rule: one state at least
--   list_in r, kept_in r, reduced_of r  by the rule's own delegates, those that building finds
use Rattle.std.specs.Prelude.{cond, ◌&&◌, List, ℕ, zero, suc, ◌/◌, ◌%◌, max, eqb, ltb, get_or}
use Rattle.std.specs.Int.Bits.{bit_and, bit_or}
use Rattle.base.specs.Lists.{list_from}
use Rattle.limits.specs.Limits.{most_states, no_delegate, most_symbols, target_cells}
use Rattle.masks.specs.Masks.{has, single, union}
use Rattle.masks.specs.Turns.{rank, turns}
use Rattle.automaton.specs.declared.Rule.{Rule}
use Rattle.automaton.specs.Rules.{target_mask}
use Rattle.automaton.specs.Successor.{successor}
use Rattle.delegates.specs.Alike.{delegate_in, of_delegate}
use Rattle.delegates.specs.mirror.Classes.{first_from}
use Rattle.delegates.specs.Claims.{starts_in}

unfoldable pub gather : (ℕ → ℕ) → ℕ → ℕ
gather f zero = 0
gather f (suc i) = bit_or (gather f i) (f i)

-- ---- the states that stay
abbrev pub delegated : List ℕ → ℕ → ℕ
delegated d m = union (λ q. of_delegate single (delegate_in d q)) m most_states

abbrev pub onward : List ℕ → List ℕ → ℕ → ℕ
onward ts d m = bit_or m (gather (λ s. delegated d (successor ts m s)) most_symbols)

abbrev pub rounds : List ℕ → List ℕ → ℕ → ℕ → ℕ
rounds ts d m i = turns (onward ts d) m i

abbrev pub kept_of : List ℕ → List ℕ → ℕ → ℕ
kept_of ts d initials = rounds ts d (delegated d initials) most_states

abbrev pub own_list : List ℕ
own_list = list_from 0 most_states (λ q. q)

abbrev pub reached_of : List ℕ → ℕ → ℕ
reached_of ts initials = kept_of ts own_list initials

abbrev pub chosen_cell : List ℕ → ℕ → ℕ → ℕ
chosen_cell d reached q =
    cond (has reached q && ltb (get_or d q 0) most_states)
    (first_from (λ p. has reached p && eqb (get_or d p 0) (get_or d q 0)) 0 q)
    no_delegate

abbrev pub chosen_of : List ℕ → ℕ → List ℕ
chosen_of d reached = list_from 0 most_states (chosen_cell d reached)

-- ---- their new numbers
abbrev pub renamed : ℕ → ℕ → ℕ
renamed kept m = union (λ q. single (rank kept q)) (bit_and kept m) most_states

-- ---- the table
abbrev pub row_of : List ℕ → List ℕ → ℕ → ℕ → ℕ → ℕ → ℕ
row_of ts d kept p s q = cond (eqb (rank kept q) p) (renamed kept (delegated d (target_mask ts q s))) 0

abbrev pub targets_of : List ℕ → List ℕ → ℕ → ℕ → ℕ → ℕ
targets_of ts d kept p s = union (λ q. row_of ts d kept p s q) kept most_states

abbrev pub cell_in : List ℕ → List ℕ → ℕ → ℕ → ℕ
cell_in ts d kept cell =
    cond (ltb (cell / most_symbols) (rank kept most_states))
    (targets_of ts d kept (cell / most_symbols) (cell % most_symbols))
    0

-- ---- the rule
abbrev pub reduced_by : Rule → List ℕ → ℕ → Rule
reduced_by r d kept = record {
  n = max 1 (rank kept most_states);
  k = r.k;
  initials = renamed kept (delegated d r.initials);
  finals = renamed kept r.finals;
  targets = list_from 0 target_cells (cell_in r.targets d kept);
}

unfoldable pub list_in : Rule → List ℕ
list_in r = chosen_of (starts_in r).delegates (reached_of r.targets r.initials)

unfoldable pub kept_in : Rule → ℕ
kept_in r = kept_of r.targets (list_in r) r.initials

abbrev pub reduced_of : Rule → Rule
reduced_of r = reduced_by r (list_in r) (kept_in r)
