-- What a line of `tracefollow` means: `rule HEX` and `next HEX` are calls, with exactly one space
-- between the fields, and so is an empty line. HEX is one or more pairs of hex digits of either case,
-- or `-` for no bytes. Any other line is malformed.
--
--   …-word        the word with which a line begins, and the space behind it
--   call_of rule b   the call that the bytes b make: they are a rule file, or else a chunk
--   call_by rule o   the same, from what a field says, if it says bytes
--   line_in w     the call that the line w means; none where it is malformed
use Rattle.std.specs.Prelude.{Bool, true, false, cond, List, [], ◌∷◌, ℕ, eqb, length, drop}
use Rattle.std.proofs.Math.Option.{Option, none, some}
use Rattle.lines.specs.Splitting.{begins as begins_with}
use Rattle.fields.specs.Bytes.{parse_bytes}
use Rattle.followcalls.specs.Calls.{Call, forgets, begins, follows}

abbrev pub rule_word : List ℕ
rule_word = 114 ∷ 117 ∷ 108 ∷ 101 ∷ 32 ∷ []

abbrev pub next_word : List ℕ
next_word = 110 ∷ 101 ∷ 120 ∷ 116 ∷ 32 ∷ []

abbrev pub call_of : Bool → List ℕ → Call
call_of true f = begins f
call_of false w = follows w

abbrev pub call_by : Bool → Option (List ℕ) → Option Call
call_by rule none = none
call_by rule (some b) = some (call_of rule b)

-- 5 bytes are a word and its space
unfoldable pub line_in : List ℕ → Option Call
line_in w =
    cond (eqb (length w) 0) (some forgets)
    (cond (begins_with rule_word w) (call_by true (parse_bytes (drop 5 w)))
    (cond (begins_with next_word w) (call_by false (parse_bytes (drop 5 w))) none))
