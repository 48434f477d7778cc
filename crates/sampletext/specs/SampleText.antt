-- What `rulesample` prints, as byte values: two lines, each ended by one line feed, or that of a
-- refusal.
--
--   accepts_word, rejects_word, none_word  `accepts `, `rejects `, `none`
--   line_for word a   the line of the answer a: the word and the text in hex digits, `-` for the
--                    empty text, `none` for none; that of a refusal is `refused` and the number
--   samples_text r   the lines of the rule r; a refusal is the same for both wishes, and printed once
--   text_for f       the text for the rule file f: `refused` and the number of reading, 1 to 8, or
--                    the lines of its rule
--   line_room        room for a line: a word of 8 bytes, two hex digits for each of 511 bytes, and
--                    a line feed
--   most_bytes       so many bytes have room for the text of any file (specs/Claims.antt)
use Rattle.std.specs.Prelude.{List, [], ◌∷◌, ◌++◌, ℕ, ◌+◌, ◌*◌}
use Rattle.std.proofs.Math.Option.{Option, none, some}
use Rattle.fields.specs.Claims.{field_of}
use Rattle.answers.specs.Answers.{refused_text}
use Rattle.automaton.specs.declared.Rule.{Rule}
use Rattle.ruleformat.specs.Refusals.{refusal}
use Rattle.ruleformat.specs.Reader.{rule_of}
use Rattle.samples.specs.declared.Wish.TheVariants.{Accepted, Rejected}
use Rattle.samples.specs.Samples.{Sample, text, nothing, refused}
use Rattle.samples.specs.Values.{longest_sample}
use Rattle.samples.specs.Search.{sample_of}

abbrev pub accepts_word : List ℕ
accepts_word = 97 ∷ 99 ∷ 99 ∷ 101 ∷ 112 ∷ 116 ∷ 115 ∷ 32 ∷ []

abbrev pub rejects_word : List ℕ
rejects_word = 114 ∷ 101 ∷ 106 ∷ 101 ∷ 99 ∷ 116 ∷ 115 ∷ 32 ∷ []

abbrev pub none_word : List ℕ
none_word = 110 ∷ 111 ∷ 110 ∷ 101 ∷ []

-- 10 is a line feed
abbrev pub line_for : List ℕ → Sample → List ℕ
line_for word (text w) = word ++ (field_of w ++ (10 ∷ []))
line_for word nothing = word ++ (none_word ++ (10 ∷ []))
line_for word (refused x) = refused_text x

abbrev pub lines_by : Sample → List ℕ → List ℕ
lines_by (text w) more = line_for accepts_word (text w) ++ more
lines_by nothing more = line_for accepts_word nothing ++ more
lines_by (refused x) more = line_for accepts_word (refused x)

abbrev pub samples_text : Rule → List ℕ
samples_text r = lines_by (sample_of r Accepted) (line_for rejects_word (sample_of r Rejected))

abbrev pub text_by : Option ℕ → List ℕ → List ℕ
text_by none f = samples_text (rule_of f)
text_by (some number) f = refused_text number

abbrev pub text_for : List ℕ → List ℕ
text_for f = text_by (refusal f) f

abbrev pub line_room : ℕ
line_room = 8 + (2 * longest_sample + 1)

abbrev pub most_bytes : ℕ
most_bytes = 2 * line_room
