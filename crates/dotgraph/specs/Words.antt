-- The fixed parts of the text for a rule as a graph, in ASCII: lists of byte values. Each has its
-- characters above it, with ⏎ for a line feed.
use Rattle.std.specs.Prelude.{List, [], ◌∷◌, ℕ}

-- `digraph rule {⏎`
abbrev pub digraph_line : List ℕ
digraph_line = 100 ∷ 105 ∷ 103 ∷ 114 ∷ 97 ∷ 112 ∷ 104 ∷ 32 ∷ 114 ∷ 117 ∷ 108 ∷ 101 ∷ 32 ∷ 123 ∷ 10 ∷ []

-- `rankdir=LR;⏎`
abbrev pub rankdir_line : List ℕ
rankdir_line = 114 ∷ 97 ∷ 110 ∷ 107 ∷ 100 ∷ 105 ∷ 114 ∷ 61 ∷ 76 ∷ 82 ∷ 59 ∷ 10 ∷ []

-- `node [shape=circle];⏎`
abbrev pub shape_line : List ℕ
shape_line = 110 ∷ 111 ∷ 100 ∷ 101 ∷ 32 ∷ 91 ∷ 115 ∷ 104 ∷ 97 ∷ 112 ∷ 101 ∷ 61 ∷ 99 ∷ 105 ∷ 114 ∷ 99 ∷ 108 ∷ 101 ∷ 93 ∷ 59 ∷ 10 ∷ []

-- ` [shape=doublecircle];⏎`
abbrev pub final_mark : List ℕ
final_mark = 32 ∷ 91 ∷ 115 ∷ 104 ∷ 97 ∷ 112 ∷ 101 ∷ 61 ∷ 100 ∷ 111 ∷ 117 ∷ 98 ∷ 108 ∷ 101 ∷ 99 ∷ 105 ∷ 114 ∷ 99 ∷ 108 ∷ 101 ∷ 93 ∷ 59 ∷ 10 ∷ []

-- ` [shape=point];⏎`
abbrev pub point_mark : List ℕ
point_mark = 32 ∷ 91 ∷ 115 ∷ 104 ∷ 97 ∷ 112 ∷ 101 ∷ 61 ∷ 112 ∷ 111 ∷ 105 ∷ 110 ∷ 116 ∷ 93 ∷ 59 ∷ 10 ∷ []

-- `;⏎`
abbrev pub line_end : List ℕ
line_end = 59 ∷ 10 ∷ []

-- `i`
abbrev pub entry_name : List ℕ
entry_name = 105 ∷ []

-- ` -> `
abbrev pub arrow_sign : List ℕ
arrow_sign = 32 ∷ 45 ∷ 62 ∷ 32 ∷ []

-- ` [label="`
abbrev pub label_start : List ℕ
label_start = 32 ∷ 91 ∷ 108 ∷ 97 ∷ 98 ∷ 101 ∷ 108 ∷ 61 ∷ 34 ∷ []

-- `"];⏎`
abbrev pub label_end : List ℕ
label_end = 34 ∷ 93 ∷ 59 ∷ 10 ∷ []

-- `}⏎`
abbrev pub closing : List ℕ
closing = 125 ∷ 10 ∷ []
