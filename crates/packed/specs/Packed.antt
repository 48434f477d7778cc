-- A rule as a value in bytes, as a line of calls carries it (document 02, R-3: n, k, both masks and
-- a target mask for each state and symbol). The first ten bytes are those of a rule file; then come
-- the 512 target masks, that of state q and symbol s at index q × 16 + s. Numbers are little-endian.
--
--   packed_size    how many bytes a rule has
--   rule_at bytes  the rule that the bytes state
--   packed_of r    the bytes that state the rule r
use Rattle.std.specs.Prelude.{List, ◌++◌, ℕ, ◌+◌, ◌*◌, get_or}
use Rattle.limits.specs.Limits.{target_cells}
use Rattle.base.specs.Lists.{list_from, joined}
use Rattle.automaton.specs.declared.Rule.{Rule}
use Rattle.ruleformat.specs.Format.{byte_at, word_at}
use Rattle.ruleformat.specs.Writing.{word, header}

-- 2,058
abbrev pub packed_size : ℕ
packed_size = 10 + 4 * target_cells

abbrev pub rule_at : List ℕ → Rule
rule_at bytes = record {
  n = byte_at bytes 0;
  k = byte_at bytes 1;
  initials = word_at bytes 2;
  finals = word_at bytes 6;
  targets = list_from 0 target_cells (λ cell. word_at bytes (10 + 4 * cell));
}

abbrev pub packed_of : Rule → List ℕ
packed_of r = header r.n r.k r.initials r.finals ++ joined (λ cell. word (get_or r.targets cell 0)) target_cells
