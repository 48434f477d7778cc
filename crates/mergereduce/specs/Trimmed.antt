-- An automaton of n states, any number of them, that is given by masks: its initial and final
-- states, and the targets ts q s of state q by the symbol s. Made a rule of those states that are
-- reached and live, numbered anew from 0 in their old order.
--
--   spread link n m           m, with every state to which a member of m is linked
--   arcs ts q p               the test that an arc leads from q to p
--   onward n ts m             m, with every target of an arc from a member of m
--   back_to n ts m            m, with every state from which an arc leads to a member of m
--   kept_from n ts ..         the states that are reached from an initial state, and from which a
--                             final state is: of n states n steps find all
--   nth n kept p              the state kept that has the new number p
--   renamed_to n kept m       the new numbers of the members of m that stay
--   trimmed_targets ..        the targets of the new state p by the symbol s
--   trimmed_by n k .. kept    the rule of the states kept, one state at least
use Rattle.std.specs.Prelude.{Bool, cond, ◌&&◌, ℕ, ◌/◌, ◌%◌, max, eqb, ltb}
use Rattle.std.specs.Int.Bits.{bit_and, bit_or}
use Rattle.base.specs.Conditions.{any_below}
use Rattle.base.specs.Lists.{list_from}
use Rattle.limits.specs.Limits.{most_symbols, target_cells}
use Rattle.masks.specs.Masks.{has, mask_of}
use Rattle.masks.specs.Turns.{rank, turns}
use Rattle.automaton.specs.declared.Rule.{Rule}
use Rattle.delegates.specs.mirror.Classes.{first_from}

abbrev pub spread : (ℕ → ℕ → Bool) → ℕ → ℕ → ℕ
spread link n m = bit_or m (mask_of (λ p. any_below (λ q. has m q && link q p) n) n)

module _ (n : ℕ) (ts : ℕ → ℕ → ℕ) where
  abbrev pub arcs : ℕ → ℕ → Bool
  arcs q p = any_below (λ s. has (ts q s) p) most_symbols

  abbrev pub onward : ℕ → ℕ
  onward m = spread arcs n m

  abbrev pub back_to : ℕ → ℕ
  back_to m = spread (λ q p. arcs p q) n m

  unfoldable pub kept_from : ℕ → ℕ → ℕ
  kept_from initials finals = bit_and (turns onward initials n) (turns back_to finals n)

unfoldable pub nth : ℕ → ℕ → ℕ → ℕ
nth n kept p = first_from (λ q. has kept q && eqb (rank kept q) p) 0 n

abbrev pub renamed_to : ℕ → ℕ → ℕ → ℕ
renamed_to n kept m = mask_of (λ p. has m (nth n kept p)) (rank kept n)

abbrev pub trimmed_targets : ℕ → (ℕ → ℕ → ℕ) → ℕ → ℕ → ℕ → ℕ
trimmed_targets n ts kept p s = renamed_to n kept (ts (nth n kept p) s)

abbrev pub trimmed_by : ℕ → ℕ → ℕ → ℕ → (ℕ → ℕ → ℕ) → ℕ → Rule
trimmed_by n k initials finals ts kept = record {
  n = max 1 (rank kept n);
  k = k;
  initials = renamed_to n kept initials;
  finals = renamed_to n kept finals;
  targets =
      list_from 0 target_cells
      (λ cell.
      cond (ltb (cell / most_symbols) (rank kept n))
      (trimmed_targets n ts kept (cell / most_symbols) (cell % most_symbols))
      0);
}
