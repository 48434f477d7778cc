-- The lines of `maketext`: `K SEED LENGTH`, three numbers with exactly one space between each two; K
-- and SEED below 2 ^ 64, LENGTH at most 65,536. Any other line is malformed, an empty one too.
--
--   longest_line        the most bytes of such a line
--   Meaning             of a line: a text to make, from k, the seed and the length; or malformed
--   up_to_most most o   the number o, if it is no greater than that
--   makes_by, length_fields, seed_fields  the meaning, from what the fields say
--   line_in w           what the line w means
--   line_means r        what each case of the code's answer says
use Rattle.std.specs.Prelude as code
use Rattle.std.specs.Prelude.{Some, None, cond, List, ℕ, ◌+◌, ◌*◌, leb}
use Rattle.std.proofs.Math.Option.{Option, none, some}
use Rattle.limits.specs.Limits.{most_digits, longest_chunk}
use Rattle.lines.specs.Splitting.{up_to, past}
use Rattle.fields.specs.Numbers.{parse_number}
use Rattle.maketextlines.specs.declared.TextLine.{TextLine}

abbrev pub longest_line : ℕ
longest_line = 3 * most_digits + 2

pub data Meaning : Type 0 where
  makes : ℕ → ℕ → ℕ → Meaning
  malformed : Meaning

abbrev pub up_to_most : ℕ → Option ℕ → Option ℕ
up_to_most most none = none
up_to_most most (some v) = cond (leb v most) (some v) none

abbrev pub makes_by : Option ℕ → Option ℕ → Option ℕ → Meaning
makes_by none seed n = malformed
makes_by (some k) none n = malformed
makes_by (some k) (some seed) none = malformed
makes_by (some k) (some seed) (some n) = makes k seed n

-- the fields of k and of the seed, and the text behind the second space, if there is one
abbrev pub length_fields : List ℕ → List ℕ → Option (List ℕ) → Meaning
length_fields k seed none = malformed
length_fields k seed (some w) =
    makes_by (parse_number k) (parse_number seed) (up_to_most longest_chunk (parse_number w))

-- the field of k, and the text behind the first space, if there is one
abbrev pub seed_fields : List ℕ → Option (List ℕ) → Meaning
seed_fields k none = malformed
seed_fields k (some w) = length_fields k (up_to 32 w) (past 32 w)

unfoldable pub line_in : List ℕ → Meaning
line_in w = seed_fields (up_to 32 w) (past 32 w)

abbrev pub line_means : code.Option TextLine → Meaning
line_means None = malformed
line_means (Some l) = makes l.k l.seed l.length
