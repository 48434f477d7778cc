-- What a line means: `load HEX`, with a rule file, `install HEX`, `open N`, `deliver P REVISION
-- HEX`, `withdraw P` and `verdict` record a call, with exactly one space between the fields; an
-- empty line means a fresh judge. Any other line is malformed.
--
--   Meaning            of a line
--     again            a fresh judge begins
--     call c           the call c is made
--     malformed        it means nothing
--   …-word             the word with which a line begins
--   revision_by        the revision that a field says (document 02, R-11), from the number that it
--                      says: that number, where 32 bits hold it
--   …By, deliver_fields, revision_fields  the meaning, from what the fields say
--   call_in w           what the line w means, where it is not empty
--   line_in w          what the line w means
--   line_means w r     what each case of the code's answer says of the line w
--   bytes_from r       the index from which on the bytes are still to be read
--   Parsed w r         r is the right answer for the line w
use Rattle.std.specs.Prelude.{◌≡◌, cond, List, [], ◌∷◌, ℕ, ◌≤◌, eqb, leb, length, drop}
use Rattle.std.proofs.Math.Option.{Option, none, some}
use Rattle.limits.specs.Limits.{largest_revision}
use Rattle.packed.specs.Packed.{packed_size, rule_at}
use Rattle.lines.specs.Splitting.{begins, up_to, past}
use Rattle.fields.specs.Numbers.{parse_number}
use Rattle.fields.specs.Bytes.{parse_bytes}
use Rattle.calls.specs.Calls.{Call, installs, loads, opens, delivers, withdraws, asks_verdict}
use Rattle.calltext.specs.declared.Line.{Line}
use Rattle.calltext.specs.declared.Line.TheVariants.{Empty, Load, Install, Open, Deliver, Withdraw, Verdict, Malformed}

pub data Meaning : Type 0 where
  again : Meaning
  call : Call → Meaning
  malformed : Meaning

-- ---- the words, each with the space behind it where a field follows
abbrev pub load_word : List ℕ
load_word = 108 ∷ 111 ∷ 97 ∷ 100 ∷ 32 ∷ []

abbrev pub install_word : List ℕ
install_word = 105 ∷ 110 ∷ 115 ∷ 116 ∷ 97 ∷ 108 ∷ 108 ∷ 32 ∷ []

abbrev pub open_word : List ℕ
open_word = 111 ∷ 112 ∷ 101 ∷ 110 ∷ 32 ∷ []

abbrev pub deliver_word : List ℕ
deliver_word = 100 ∷ 101 ∷ 108 ∷ 105 ∷ 118 ∷ 101 ∷ 114 ∷ 32 ∷ []

abbrev pub withdraw_word : List ℕ
withdraw_word = 119 ∷ 105 ∷ 116 ∷ 104 ∷ 100 ∷ 114 ∷ 97 ∷ 119 ∷ 32 ∷ []

abbrev pub verdict_word : List ℕ
verdict_word = 118 ∷ 101 ∷ 114 ∷ 100 ∷ 105 ∷ 99 ∷ 116 ∷ []

-- ---- the meaning, from what the fields say
abbrev pub load_by : Option (List ℕ) → Meaning
load_by none = malformed
load_by (some f) = call (loads f)

-- exactly as many bytes as state a rule
abbrev pub install_by : Option (List ℕ) → Meaning
install_by none = malformed
install_by (some b) = cond (eqb (length b) packed_size) (call (installs (rule_at b))) malformed

abbrev pub open_by : Option ℕ → Meaning
open_by none = malformed
open_by (some n) = call (opens n)

abbrev pub withdraw_by : Option ℕ → Meaning
withdraw_by none = malformed
withdraw_by (some p) = call (withdraws p)

abbrev pub revision_by : Option ℕ → Option ℕ
revision_by none = none
revision_by (some v) = cond (leb v largest_revision) (some v) none

-- the place, the revision and the bytes
abbrev pub deliver_by : Option ℕ → Option ℕ → Option (List ℕ) → Meaning
deliver_by none revision bytes = malformed
deliver_by (some p) none bytes = malformed
deliver_by (some p) (some v) none = malformed
deliver_by (some p) (some v) (some w) = call (delivers p v w)

-- what the place says; a revision, and behind one space the bytes
abbrev pub revision_fields : Option ℕ → List ℕ → Option (List ℕ) → Meaning
revision_fields p v none = malformed
revision_fields p v (some w) = deliver_by p (revision_by (parse_number v)) (parse_bytes w)

-- a place, and behind one space the revision and what follows it
abbrev pub deliver_fields : List ℕ → Option (List ℕ) → Meaning
deliver_fields p none = malformed
deliver_fields p (some w) = revision_fields (parse_number p) (up_to 32 w) (past 32 w)

-- the calls
unfoldable pub call_in : List ℕ → Meaning
call_in w =
    cond (begins verdict_word w) (cond (eqb (length w) 7) (call asks_verdict) malformed)
    (cond (begins load_word w) (load_by (parse_bytes (drop 5 w)))
    (cond (begins install_word w) (install_by (parse_bytes (drop 8 w)))
    (cond (begins open_word w) (open_by (parse_number (drop 5 w)))
    (cond (begins deliver_word w) (deliver_fields (up_to 32 (drop 8 w)) (past 32 (drop 8 w)))
    (cond (begins withdraw_word w) (withdraw_by (parse_number (drop 9 w))) malformed)))))

abbrev pub line_in : List ℕ → Meaning
line_in w = cond (eqb (length w) 0) again (call_in w)

-- ---- what the code answers. The bytes of a load, an installation and a delivery are still to be
-- read, from an index on
abbrev pub line_means : List ℕ → Line → Meaning
line_means w Empty = again
line_means w Load = load_by (parse_bytes (drop 5 w))
line_means w Install = install_by (parse_bytes (drop 8 w))
line_means w (Open n) = call (opens n)
line_means w (Deliver p v from) = deliver_by (some p) (some v) (parse_bytes (drop from w))
line_means w (Withdraw p) = call (withdraws p)
line_means w Verdict = call asks_verdict
line_means w Malformed = malformed

abbrev pub bytes_from : Line → ℕ
bytes_from Empty = 0
bytes_from Load = 5
bytes_from Install = 8
bytes_from (Open n) = 0
bytes_from (Deliver p v from) = from
bytes_from (Withdraw p) = 0
bytes_from Verdict = 0
bytes_from Malformed = 0

pub record Parsed (w : List ℕ) (r : Line) : Type 0 where
  pub means : line_in w ≡ line_means w r
  pub inside : bytes_from r ≤ length w
