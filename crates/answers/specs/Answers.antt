-- The lines that every program answers with, in ASCII: lists of byte values.
--
--   line_of word ns   the word, the numbers, each behind a space, and a line feed
--   accepted_word, waiting_word  `accepted`, `waiting`
--   refused_text x   `refused` and the number
--   malformed_text   `malformed`
--   skipped_text     `skipped`: the line stands behind a malformed one of its list
use Rattle.std.specs.Prelude.{List, [], ◌∷◌, ◌++◌, ℕ}
use Rattle.text.specs.Numerals.{decimal}

-- 32 is a space, 10 a line feed
abbrev pub behind : List ℕ → List ℕ
behind [] = 10 ∷ []
behind (n ∷ ns) = 32 ∷ (decimal n ++ behind ns)

abbrev pub line_of : List ℕ → List ℕ → List ℕ
line_of word ns = word ++ behind ns

abbrev pub accepted_word : List ℕ
accepted_word = 97 ∷ 99 ∷ 99 ∷ 101 ∷ 112 ∷ 116 ∷ 101 ∷ 100 ∷ []

abbrev pub waiting_word : List ℕ
waiting_word = 119 ∷ 97 ∷ 105 ∷ 116 ∷ 105 ∷ 110 ∷ 103 ∷ []

abbrev pub refused_text : ℕ → List ℕ
refused_text x = line_of (114 ∷ 101 ∷ 102 ∷ 117 ∷ 115 ∷ 101 ∷ 100 ∷ []) (x ∷ [])

abbrev pub malformed_text : List ℕ
malformed_text = 109 ∷ 97 ∷ 108 ∷ 102 ∷ 111 ∷ 114 ∷ 109 ∷ 101 ∷ 100 ∷ 10 ∷ []

abbrev pub skipped_text : List ℕ
skipped_text = 115 ∷ 107 ∷ 105 ∷ 112 ∷ 112 ∷ 101 ∷ 100 ∷ 10 ∷ []
