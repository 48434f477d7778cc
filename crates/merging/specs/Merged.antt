-- Two rules made one, as a value (document 02, R-10). The first has n1 states and the table ts, the
-- second n2 and us.
--
--   states_of way n1 n2       the number of states of the result
--   pairs m1 m2 n2            the pairs of a member of m1 and one of m2, which is below n2
--   beside m1 m2 n1           the members of m1, which are below n1, and those of m2 after them
--   set_of way n1 n2 m1 m2    the initial or final states of the result, from those of the rules
--   targets_of way .. q s     the targets of the result's state q by the symbol s
--   cell_in way .. cell       a cell of the result's table, 0 for what is no state of it
--   merged_of way one two     the result
use Rattle.std.specs.Prelude.{cond, List, ℕ, ◌+◌, ◌-◌, ◌*◌, ◌/◌, ◌%◌, ◌^◌, ltb}
use Rattle.std.specs.Int.Bits.{bit_or}
use Rattle.base.specs.Lists.{list_from}
use Rattle.limits.specs.Limits.{most_states, most_symbols, target_cells}
use Rattle.masks.specs.Masks.{single, union}
use Rattle.automaton.specs.declared.Rule.{Rule}
use Rattle.automaton.specs.Rules.{target_mask}
use Rattle.products.specs.Products.{first_in, second_in}
use Rattle.merging.specs.declared.Way.{Way}
use Rattle.merging.specs.declared.Way.TheVariants.{Both, Either, Interleaving}

abbrev pub states_of : Way → ℕ → ℕ → ℕ
states_of Both n1 n2 = n1 * n2
states_of Either n1 n2 = n1 + n2
states_of Interleaving n1 n2 = n1 * n2

-- ---- sets
abbrev pub pairs : ℕ → ℕ → ℕ → ℕ
pairs m1 m2 n2 = union (λ q1. m2 * 2 ^ (q1 * n2)) m1 most_states

abbrev pub beside : ℕ → ℕ → ℕ → ℕ
beside m1 m2 n1 = bit_or m1 (m2 * 2 ^ n1)

abbrev pub set_of : Way → ℕ → ℕ → ℕ → ℕ → ℕ
set_of Both n1 n2 m1 m2 = pairs m1 m2 n2
set_of Either n1 n2 m1 m2 = beside m1 m2 n1
set_of Interleaving n1 n2 m1 m2 = pairs m1 m2 n2

-- ---- arcs
-- of the pair (q1, q2), whose members have the targets t1 and t2: both move, or one alone
abbrev pub both_move : ℕ → ℕ → ℕ → ℕ
both_move n2 t1 t2 = pairs t1 t2 n2

abbrev pub one_moves : ℕ → ℕ → ℕ → ℕ → ℕ → ℕ
one_moves n2 q1 q2 t1 t2 = bit_or (pairs t1 (single q2) n2) (pairs (single q1) t2 n2)

-- of a state in its own rule
abbrev pub own_targets : ℕ → List ℕ → List ℕ → ℕ → ℕ → ℕ
own_targets n1 ts us q s = cond (ltb q n1) (target_mask ts q s) (target_mask us (q - n1) s * 2 ^ n1)

abbrev pub targets_of : Way → ℕ → ℕ → List ℕ → List ℕ → ℕ → ℕ → ℕ
targets_of Both n1 n2 ts us q s =
    both_move n2 (target_mask ts (first_in n2 q) s) (target_mask us (second_in n2 q) s)
targets_of Either n1 n2 ts us q s = own_targets n1 ts us q s
targets_of Interleaving n1 n2 ts us q s =
    one_moves n2 (first_in n2 q) (second_in n2 q)
    (target_mask ts (first_in n2 q) s)
    (target_mask us (second_in n2 q) s)

abbrev pub cell_in : Way → ℕ → ℕ → List ℕ → List ℕ → ℕ → ℕ
cell_in way n1 n2 ts us cell =
    cond (ltb (cell / most_symbols) (states_of way n1 n2))
    (targets_of way n1 n2 ts us (cell / most_symbols) (cell % most_symbols))
    0

-- ---- the rule
abbrev pub merged_of : Way → Rule → Rule → Rule
merged_of way one two = record {
  n = states_of way one.n two.n;
  k = one.k;
  initials = set_of way one.n two.n one.initials two.initials;
  finals = set_of way one.n two.n one.finals two.finals;
  targets = list_from 0 target_cells (cell_in way one.n two.n one.targets two.targets);
}
