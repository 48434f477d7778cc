-- The rule of a pattern's bytes, as the code makes it of a reading.
--
--   rows_of r            the states that may come next, state by state; row 0 is for the start
--   targets_of rows ps  the masks of the arcs: those that may come next and have the letter
--   rule_from r         the rule of a reading
--   rule_read b         the rule of the bytes b
use Rattle.std.specs.Prelude.{cond, List, ℕ, ◌+◌, ◌/◌, ◌%◌, get_or, set}
use Rattle.std.specs.Int.Bits.{bit_or, bit_and}
use Rattle.base.specs.Lists.{list_from}
use Rattle.limits.specs.Limits.{most_states, most_symbols, target_cells}
use Rattle.automaton.specs.declared.Rule.{Rule}
use Rattle.patternreader.specs.declared.Reading.{Reading}
use Rattle.patternreader.specs.Reader.{after_bytes, beginning, finished}

abbrev pub rows_of : Reading → List ℕ
rows_of r = set r.follow 0 r.alternatives.first

abbrev pub targets_of : List ℕ → List ℕ → List ℕ
targets_of rows positions =
    list_from 0 target_cells (λ c. bit_and (get_or rows (c / most_symbols) 0) (get_or positions (c % most_symbols) 0))

abbrev pub rule_from : Reading → Rule
rule_from r = record {
  n = r.letters % most_states + 1;
  k = most_symbols;
  initials = 1;
  finals = bit_or (cond r.alternatives.empty 1 0) r.alternatives.last;
  targets = targets_of (rows_of r) r.positions;
}

abbrev pub rule_read : List ℕ → Rule
rule_read b = rule_from (finished (after_bytes beginning b))
