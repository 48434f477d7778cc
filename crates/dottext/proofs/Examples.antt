-- Rules A and B drawn whole, by computation. Assumes nothing.
use mathlib.Core.Path.{◌≡◌}
use mathlib.Core.List.{List, [], ◌∷◌, ◌++◌}
use Prim.Native.Nat.{ℕ}
use Rattle.base.specs.Lists.{list_from, joined}
use Rattle.base.specs.Conditions.{any_below}
use Rattle.text.specs.Numerals.{decimal_below}
use Rattle.ruleformat.specs.Reader.{targets_up_to}
use Rattle.ruleformat.specs.Worked.{file_A, file_B}
use Rattle.ruleformat.proofs.Examples.{accepted_A, accepted_B}
use Rattle.dotgraph.specs.Words.{digraph_line, rankdir_line, shape_line, closing}
use Rattle.dotlabels.specs.Labels.{leads, piece}
use Rattle.dottext.specs.Answers.{drawing_for}

-- `0;⏎1;⏎2 [shape=doublecircle];⏎`
abbrev states : List ℕ
states = 48 ∷ 59 ∷ 10 ∷ 49 ∷ 59 ∷ 10 ∷ 50 ∷ 32 ∷ 91 ∷ 115 ∷ 104 ∷ 97 ∷ 112 ∷ 101 ∷ 61 ∷ 100 ∷ 111 ∷ 117 ∷ 98 ∷ 108 ∷ 101 ∷ 99 ∷ 105 ∷ 114 ∷ 99 ∷ 108 ∷ 101 ∷ 93 ∷ 59 ∷ 10 ∷ []

-- `i0 [shape=point];⏎i0 -> 0;⏎`
abbrev entry : List ℕ
entry = 105 ∷ 48 ∷ 32 ∷ 91 ∷ 115 ∷ 104 ∷ 97 ∷ 112 ∷ 101 ∷ 61 ∷ 112 ∷ 111 ∷ 105 ∷ 110 ∷ 116 ∷ 93 ∷ 59 ∷ 10 ∷ 105 ∷ 48 ∷ 32 ∷ 45 ∷ 62 ∷ 32 ∷ 48 ∷ 59 ∷ 10 ∷ []

-- `0 -> 0 [label="0,1"];⏎`
abbrev loop : List ℕ
loop = 48 ∷ 32 ∷ 45 ∷ 62 ∷ 32 ∷ 48 ∷ 32 ∷ 91 ∷ 108 ∷ 97 ∷ 98 ∷ 101 ∷ 108 ∷ 61 ∷ 34 ∷ 48 ∷ 44 ∷ 49 ∷ 34 ∷ 93 ∷ 59 ∷ 10 ∷ []

-- `0 -> 1 [label="0"];⏎`
abbrev by_zero : List ℕ
by_zero = 48 ∷ 32 ∷ 45 ∷ 62 ∷ 32 ∷ 49 ∷ 32 ∷ 91 ∷ 108 ∷ 97 ∷ 98 ∷ 101 ∷ 108 ∷ 61 ∷ 34 ∷ 48 ∷ 34 ∷ 93 ∷ 59 ∷ 10 ∷ []

-- `1 -> 2 [label="1"];⏎`
abbrev by_one : List ℕ
by_one = 49 ∷ 32 ∷ 45 ∷ 62 ∷ 32 ∷ 50 ∷ 32 ∷ 91 ∷ 108 ∷ 97 ∷ 98 ∷ 101 ∷ 108 ∷ 61 ∷ 34 ∷ 49 ∷ 34 ∷ 93 ∷ 59 ∷ 10 ∷ []

drawing_A : drawing_for file_A
    ≡ digraph_line
    ++ (rankdir_line ++ (shape_line ++ (states ++ (entry ++ (loop ++ (by_zero ++ (by_one ++ closing)))))))
unfolding leads piece joined any_below decimal_below list_from targets_up_to
drawing_A = rw accepted_A

-- `0;⏎1 [shape=doublecircle];⏎2 [shape=doublecircle];⏎`
abbrev states_B : List ℕ
states_B = 48 ∷ 59 ∷ 10 ∷ 49 ∷ 32 ∷ 91 ∷ 115 ∷ 104 ∷ 97 ∷ 112 ∷ 101 ∷ 61 ∷ 100 ∷ 111 ∷ 117 ∷ 98 ∷ 108 ∷ 101 ∷ 99 ∷ 105 ∷ 114 ∷ 99 ∷ 108 ∷ 101 ∷ 93 ∷ 59 ∷ 10 ∷ 50 ∷ 32 ∷ 91 ∷ 115 ∷ 104 ∷ 97 ∷ 112 ∷ 101 ∷ 61 ∷ 100 ∷ 111 ∷ 117 ∷ 98 ∷ 108 ∷ 101 ∷ 99 ∷ 105 ∷ 114 ∷ 99 ∷ 108 ∷ 101 ∷ 93 ∷ 59 ∷ 10 ∷ []

-- `0 -> 1 [label="0"];⏎0 -> 2 [label="0"];⏎`
abbrev onward : List ℕ
onward = 48 ∷ 32 ∷ 45 ∷ 62 ∷ 32 ∷ 49 ∷ 32 ∷ 91 ∷ 108 ∷ 97 ∷ 98 ∷ 101 ∷ 108 ∷ 61 ∷ 34 ∷ 48 ∷ 34 ∷ 93 ∷ 59 ∷ 10 ∷ 48 ∷ 32 ∷ 45 ∷ 62 ∷ 32 ∷ 50 ∷ 32 ∷ 91 ∷ 108 ∷ 97 ∷ 98 ∷ 101 ∷ 108 ∷ 61 ∷ 34 ∷ 48 ∷ 34 ∷ 93 ∷ 59 ∷ 10 ∷ []

-- `1 -> 0 [label="0"];⏎2 -> 0 [label="0"];⏎`
abbrev back : List ℕ
back = 49 ∷ 32 ∷ 45 ∷ 62 ∷ 32 ∷ 48 ∷ 32 ∷ 91 ∷ 108 ∷ 97 ∷ 98 ∷ 101 ∷ 108 ∷ 61 ∷ 34 ∷ 48 ∷ 34 ∷ 93 ∷ 59 ∷ 10 ∷ 50 ∷ 32 ∷ 45 ∷ 62 ∷ 32 ∷ 48 ∷ 32 ∷ 91 ∷ 108 ∷ 97 ∷ 98 ∷ 101 ∷ 108 ∷ 61 ∷ 34 ∷ 48 ∷ 34 ∷ 93 ∷ 59 ∷ 10 ∷ []

drawing_B : drawing_for file_B ≡ digraph_line ++ (rankdir_line ++ (shape_line ++ (states_B ++ (entry ++ (onward ++ (back ++ closing))))))
unfolding leads piece joined any_below decimal_below list_from targets_up_to
drawing_B = rw accepted_B
