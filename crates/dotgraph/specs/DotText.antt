-- What `ruledot` draws: the automaton of a rule in the language of Graphviz, as byte values, each
-- line ended by one line feed.
--
--   dot_text r    three lines of head; a line for each state, `Q;`, or `Q [shape=doublecircle];`
--                 for a final one; two lines for each initial state, `iQ [shape=point];` and `iQ ->
--                 Q;`; a line for each pair of states that an arc leads between, by state and
--                 target, `Q -> T [label="LABEL"];`; and `}`. A label: dotlabels/specs/Labels.antt
--   most_bytes    so many bytes have room for the drawing of any rule (`dot_most`: proofs/Lengths.antt)
use Rattle.std.specs.Prelude.{cond, List, [], ◌++◌, ℕ, ◌+◌, ◌*◌, min}
use Rattle.limits.specs.Limits.{most_states, most_symbols}
use Rattle.base.specs.Lists.{joined}
use Rattle.base.specs.Conditions.{any_below}
use Rattle.text.specs.Numerals.{decimal}
use Rattle.masks.specs.Masks.{has}
use Rattle.automaton.specs.declared.Rule.{Rule}
use Rattle.dotlabels.specs.Labels.{leads, label}
use Rattle.dotgraph.specs.Words.{
  digraph_line,
  rankdir_line,
  shape_line,
  final_mark,
  point_mark,
  line_end,
  entry_name,
  arrow_sign,
  label_start,
  label_end,
  closing,
}

abbrev pub head_lines : List ℕ
head_lines = digraph_line ++ (rankdir_line ++ shape_line)

abbrev pub state_line : ℕ → ℕ → List ℕ
state_line finals q = decimal q ++ cond (has finals q) final_mark line_end

-- `Q -> T`
abbrev pub arrow : ℕ → ℕ → List ℕ
arrow q t = decimal q ++ (arrow_sign ++ decimal t)

-- a point, and an arrow from it to the state
abbrev pub point_line : ℕ → List ℕ
point_line q = entry_name ++ (decimal q ++ point_mark)

abbrev pub entry_line : ℕ → List ℕ
entry_line q = entry_name ++ (arrow q q ++ line_end)

abbrev pub initial_lines : ℕ → ℕ → List ℕ
initial_lines initials q = cond (has initials q) (point_line q ++ entry_line q) []

-- ---- arrows
abbrev pub arrow_line : List ℕ → ℕ → ℕ → ℕ → List ℕ
arrow_line ts k q t = arrow q t ++ (label_start ++ (label (leads ts k q t) k ++ label_end))

-- nothing where no symbol leads from q to t
abbrev pub arrow_lines : List ℕ → ℕ → ℕ → ℕ → List ℕ
arrow_lines ts k q t = cond (any_below (leads ts k q t) k) (arrow_line ts k q t) []

-- the arrows from q, and all, of n states and k symbols
abbrev pub arrows_from : List ℕ → ℕ → ℕ → ℕ → List ℕ
arrows_from ts n k q = joined (arrow_lines ts k q) n

abbrev pub arrows_text : List ℕ → ℕ → ℕ → List ℕ
arrows_text ts n k = joined (arrows_from ts n k) n

-- ---- a rule
abbrev pub graph : Rule → ℕ → ℕ → List ℕ
graph r n k =
    head_lines
    ++ (joined (state_line r.finals) n
    ++ (joined (initial_lines r.initials) n ++ (arrows_text r.targets n k ++ closing)))

-- at most 32 states and 16 symbols are drawn, which is all that a rule has
abbrev pub dot_text : Rule → List ℕ
dot_text r = graph r (min r.n most_states) (min r.k most_symbols)

-- 48 for the head, 25 and 30 for each of 32 states, 69 for each of 1,024 arrows, of which 3 for
-- each of 16 symbols, and 2 for the last line
abbrev pub most_bytes : ℕ
most_bytes = 48 + (25 + 30) * most_states + 69 * most_states * most_states + 2
