-- What `ruleprint` prints (document 01, "Two rules by hand"), as byte values: fields with one space
-- between them, each line ended by one line feed.
--
--   rule_text b     the number of sets and M; a line for each set: its number, its mask in 8 hex
--                   digits and, for each symbol, the number of the successor or - for the empty
--                   set; and each state's delegate, or - where it has none (document 02, R-7)
--   refused_text x  `refused` and the number (crates/answers)
--   text_of b        one or the other, by what building answers
use Rattle.std.specs.Prelude.{Result, Ok, Err, cond, List, [], ◌∷◌, ◌++◌, ℕ, ◌+◌, ◌*◌, min, ltb, get_or}
use Rattle.std.proofs.Math.Option.{Option, none, some}
use Rattle.limits.specs.Limits.{most_states, most_symbols, most_sets, empty_set}
use Rattle.base.specs.Lists.{joined}
use Rattle.text.specs.Numerals.{decimal, hex}
pub use Rattle.answers.specs.Answers.{refused_text}
use Rattle.delegates.specs.Alike.{delegate_in}
use Rattle.base.specs.declared.Refusal.{Refusal}
use Rattle.base.specs.Answers.{refusal_number}
use Rattle.build.specs.declared.Built.{Built}

abbrev pub space : ℕ
space = 32

abbrev pub line_feed : ℕ
line_feed = 10

abbrev pub dash : ℕ
dash = 45

-- `sets `, ` starts `, `delegates`
abbrev pub sets_word : List ℕ
sets_word = 115 ∷ 101 ∷ 116 ∷ 115 ∷ 32 ∷ []

abbrev pub starts_word : List ℕ
starts_word = 32 ∷ 115 ∷ 116 ∷ 97 ∷ 114 ∷ 116 ∷ 115 ∷ 32 ∷ []

abbrev pub delegates_word : List ℕ
delegates_word = 100 ∷ 101 ∷ 108 ∷ 101 ∷ 103 ∷ 97 ∷ 116 ∷ 101 ∷ 115 ∷ []

-- a number with a space before it
abbrev pub field : ℕ → List ℕ
field n = (space ∷ []) ++ decimal n

-- a cell of the next-set table
abbrev pub cell_text : ℕ → List ℕ
cell_text to = (space ∷ []) ++ cond (ltb to empty_set) (decimal to) (dash ∷ [])

abbrev pub row_text : List ℕ → ℕ → ℕ → List ℕ
row_text next k i = joined (λ s. cell_text (get_or next (i * most_symbols + s) 0)) k

abbrev pub set_line : List ℕ → List ℕ → ℕ → ℕ → List ℕ
set_line sets next k i = decimal i ++ ((space ∷ []) ++ (hex 8 (get_or sets i 0) ++ (row_text next k i ++ (line_feed ∷ []))))

abbrev pub head_line : ℕ → ℕ → List ℕ
head_line count starts = sets_word ++ (decimal count ++ (starts_word ++ (decimal starts ++ (line_feed ∷ []))))

-- a state's delegate, or - where it has none
abbrev pub delegate_text : Option ℕ → List ℕ
delegate_text none = space ∷ dash ∷ []
delegate_text (some d) = field d

abbrev pub delegates_line : List ℕ → ℕ → List ℕ
delegates_line d n = delegates_word ++ (joined (λ q. delegate_text (delegate_in d q)) n ++ (line_feed ∷ []))

-- at most 512 sets, 16 symbols and 32 states are printed, which is all that a built rule has
abbrev pub rule_text : Built → List ℕ
rule_text b =
    head_line (min b.setcount most_sets) b.startcount
    ++ (joined (set_line b.sets b.next (min b.k most_symbols)) (min b.setcount most_sets) ++ delegates_line b.delegates (min b.n most_states))

abbrev pub text_of : Result Built Refusal → List ℕ
text_of (Ok built) = rule_text built
text_of (Err refusal) = refused_text (refusal_number refusal)
