-- What a line of `mapjudge` means: `build HEX`, `run HEX`, `compose F G` and `verdict F` are calls,
-- with exactly one space between the fields, and so is an empty line. HEX is one or more pairs of
-- hex digits, or `-` for no bytes; F and G are exactly sixteen hex digits each, of either case. Any
-- other line is malformed.
--
--   …-word        the word with which a line begins, and the space behind it
--   …By           the call, from what the fields say, if they say it
--   compose_fields f o  the same of a composition: a field, and what stands behind the next space
--   line_in w     the call that the line w means; none where it is malformed
--   changes w     the line w may change which profile there is: it is empty, or begins like a build
use Rattle.std.specs.Prelude.{Bool, true, cond, List, [], ◌∷◌, ℕ, eqb, length, drop}
use Rattle.std.proofs.Math.Option.{Option, none, some}
use Rattle.lines.specs.Splitting.{begins, up_to, past}
use Rattle.fields.specs.Bytes.{parse_bytes}
use Rattle.maptext.specs.MappingText.{parse_mapping}
use Rattle.mapcalls.specs.Calls.{Call, forgets, builds, runs, composes, asks}

abbrev pub build_word : List ℕ
build_word = 98 ∷ 117 ∷ 105 ∷ 108 ∷ 100 ∷ 32 ∷ []

abbrev pub run_word : List ℕ
run_word = 114 ∷ 117 ∷ 110 ∷ 32 ∷ []

abbrev pub compose_word : List ℕ
compose_word = 99 ∷ 111 ∷ 109 ∷ 112 ∷ 111 ∷ 115 ∷ 101 ∷ 32 ∷ []

abbrev pub verdict_word : List ℕ
verdict_word = 118 ∷ 101 ∷ 114 ∷ 100 ∷ 105 ∷ 99 ∷ 116 ∷ 32 ∷ []

abbrev pub build_by : Option (List ℕ) → Option Call
build_by none = none
build_by (some f) = some (builds f)

abbrev pub run_by : Option (List ℕ) → Option Call
run_by none = none
run_by (some w) = some (runs w)

abbrev pub ask_by : Option (List ℕ) → Option Call
ask_by none = none
ask_by (some f) = some (asks f)

-- F is the earlier chunk's
abbrev pub compose_by : Option (List ℕ) → Option (List ℕ) → Option Call
compose_by none g = none
compose_by (some f) none = none
compose_by (some f) (some g) = some (composes f g)

-- 32 is a space
abbrev pub compose_fields : List ℕ → Option (List ℕ) → Option Call
compose_fields f none = none
compose_fields f (some g) = compose_by (parse_mapping f) (parse_mapping g)

-- a line that leaves the profile as it is
unfoldable pub ask_in : List ℕ → Option Call
ask_in w =
    cond (begins run_word w) (run_by (parse_bytes (drop 4 w)))
    (cond (begins compose_word w) (compose_fields (up_to 32 (drop 8 w)) (past 32 (drop 8 w)))
    (cond (begins verdict_word w) (ask_by (parse_mapping (drop 8 w))) none))

unfoldable pub line_in : List ℕ → Option Call
line_in w =
    cond (eqb (length w) 0) (some forgets)
    (cond (begins build_word w) (build_by (parse_bytes (drop 6 w))) (ask_in w))

abbrev pub changes : List ℕ → Bool
changes w = cond (eqb (length w) 0) true (begins build_word w)
