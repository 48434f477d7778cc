-- McNaughton and Yamada's positions of a pattern (document 02, R-6), and the rule that they make.
-- The letters are numbered from the left, from o + 1 on; sets of positions are masks.
--
--   nullable p         the empty text is one of p
--   first p o          the positions at which a text of p can begin
--   last p o           the positions at which it can end
--   follow p o i       the positions that can come right after position i
--   positions_of p o s  the positions with the letter s
--   next_states p q    the states that can come right after state q: the first positions after the
--                      start, else those that follow the position
--   position_rule p    the rule: state 0 is the start, state i the i-th letter from the left
use Rattle.std.specs.Prelude.{Bool, true, false, cond, ◌&&◌, ◌||◌, ℕ, zero, suc, ◌+◌, ◌/◌, ◌%◌, eqb}
use Rattle.std.specs.Int.Bits.{bit_or, bit_and}
use Rattle.base.specs.Lists.{list_from}
use Rattle.limits.specs.Limits.{most_symbols, target_cells}
use Rattle.masks.specs.Masks.{has, single}
use Rattle.automaton.specs.declared.Rule.{Rule}
use Rattle.patterns.specs.Patterns.{Pattern, empty, letter, then, or, star, count}

abbrev pub nullable : Pattern → Bool
nullable empty = true
nullable (letter s) = false
nullable (then p q) = nullable p && nullable q
nullable (or p q) = nullable p || nullable q
nullable (star p) = true

abbrev pub first : Pattern → ℕ → ℕ
first empty o = 0
first (letter s) o = single (suc o)
first (then p q) o = bit_or (first p o) (cond (nullable p) (first q (o + count p)) 0)
first (or p q) o = bit_or (first p o) (first q (o + count p))
first (star p) o = first p o

abbrev pub last : Pattern → ℕ → ℕ
last empty o = 0
last (letter s) o = single (suc o)
last (then p q) o = bit_or (cond (nullable q) (last p o) 0) (last q (o + count p))
last (or p q) o = bit_or (last p o) (last q (o + count p))
last (star p) o = last p o

abbrev pub follow : Pattern → ℕ → ℕ → ℕ
follow empty o i = 0
follow (letter s) o i = 0
follow (then p q) o i = bit_or (bit_or (follow p o i) (follow q (o + count p) i)) (cond (has (last p o) i) (first q (o + count p)) 0)
follow (or p q) o i = bit_or (follow p o i) (follow q (o + count p) i)
follow (star p) o i = bit_or (follow p o i) (cond (has (last p o) i) (first p o) 0)

abbrev pub positions_of : Pattern → ℕ → ℕ → ℕ
positions_of empty o s = 0
positions_of (letter a) o s = cond (eqb a s) (single (suc o)) 0
positions_of (then p q) o s = bit_or (positions_of p o s) (positions_of q (o + count p) s)
positions_of (or p q) o s = bit_or (positions_of p o s) (positions_of q (o + count p) s)
positions_of (star p) o s = positions_of p o s

abbrev pub next_states : Pattern → ℕ → ℕ
next_states p zero = first p 0
next_states p (suc i) = follow p 0 (suc i)

abbrev pub position_rule : Pattern → Rule
position_rule p = record {
  n = suc (count p);
  k = most_symbols;
  initials = single 0;
  finals = bit_or (cond (nullable p) (single 0) 0) (last p 0);
  targets = list_from 0 target_cells (λ c. bit_and (next_states p (c / most_symbols)) (positions_of p 0 (c % most_symbols)));
}
