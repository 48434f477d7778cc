-- What a line of `trayjudge` means: `open W N`, `deliver B HEX`, `withdraw B` and `verdict` are calls
-- of a tray, with exactly one space between the fields; `row HEX` and `column HEX` have a rule file,
-- and an empty line means a fresh tray. Any other line is malformed.
--
--   Meaning            of a line
--     again            a fresh tray begins
--     call c           the call c is made
--     row_file f       the file f is to be read and its rule installed for the rows, which is no call
--                      by itself
--     column_file f    the same for the columns
--     malformed        it means nothing
--   …-word             the word with which a line begins
--   …By, …Fields       the meaning, from what the fields say; of two fields the second is what stands
--                      behind the first space, where there is one
--   call_in w           what the line w means, where it is not empty
--   line_in w          what the line w means
--   line_means w r     what each case of the code's answer says of the line w
--   bytes_from r       the index from which on the bytes are still to be read
--   Parsed w r         r is the right answer for the line w
use Rattle.std.specs.Prelude.{◌≡◌, cond, List, [], ◌∷◌, ℕ, ◌≤◌, eqb, length, drop}
use Rattle.std.proofs.Math.Option.{Option, none, some}
use Rattle.lines.specs.Splitting.{begins, up_to, past}
use Rattle.fields.specs.Numbers.{parse_number}
use Rattle.fields.specs.Bytes.{parse_bytes}
use Rattle.trays.specs.Calls.{Call, opens, delivers, withdraws, asks_verdict}
use Rattle.traytext.specs.declared.Line.{Line}
use Rattle.traytext.specs.declared.Line.TheVariants.{Empty, Row, Column, Open, Deliver, Withdraw, Verdict, Malformed}

pub data Meaning : Type 0 where
  again : Meaning
  call : Call → Meaning
  row_file : List ℕ → Meaning
  column_file : List ℕ → Meaning
  malformed : Meaning

-- ---- the words, each with the space behind it where a field follows
abbrev pub row_word : List ℕ
row_word = 114 ∷ 111 ∷ 119 ∷ 32 ∷ []

abbrev pub column_word : List ℕ
column_word = 99 ∷ 111 ∷ 108 ∷ 117 ∷ 109 ∷ 110 ∷ 32 ∷ []

abbrev pub open_word : List ℕ
open_word = 111 ∷ 112 ∷ 101 ∷ 110 ∷ 32 ∷ []

abbrev pub deliver_word : List ℕ
deliver_word = 100 ∷ 101 ∷ 108 ∷ 105 ∷ 118 ∷ 101 ∷ 114 ∷ 32 ∷ []

abbrev pub withdraw_word : List ℕ
withdraw_word = 119 ∷ 105 ∷ 116 ∷ 104 ∷ 100 ∷ 114 ∷ 97 ∷ 119 ∷ 32 ∷ []

abbrev pub verdict_word : List ℕ
verdict_word = 118 ∷ 101 ∷ 114 ∷ 100 ∷ 105 ∷ 99 ∷ 116 ∷ []

-- ---- the meaning, from what the fields say
abbrev pub row_by : Option (List ℕ) → Meaning
row_by none = malformed
row_by (some f) = row_file f

abbrev pub column_by : Option (List ℕ) → Meaning
column_by none = malformed
column_by (some f) = column_file f

abbrev pub withdraw_by : Option ℕ → Meaning
withdraw_by none = malformed
withdraw_by (some p) = call (withdraws p)

-- the width, and the number of bands
abbrev pub open_by : Option ℕ → Option ℕ → Meaning
open_by none n = malformed
open_by (some w) none = malformed
open_by (some w) (some n) = call (opens w n)

-- the band, and its bytes
abbrev pub deliver_by : Option ℕ → Option (List ℕ) → Meaning
deliver_by none bytes = malformed
deliver_by (some p) none = malformed
deliver_by (some p) (some b) = call (delivers p b)

abbrev pub open_fields : List ℕ → Option (List ℕ) → Meaning
open_fields w none = malformed
open_fields w (some n) = open_by (parse_number w) (parse_number n)

abbrev pub deliver_fields : List ℕ → Option (List ℕ) → Meaning
deliver_fields p none = malformed
deliver_fields p (some b) = deliver_by (parse_number p) (parse_bytes b)

-- 32 is a space
unfoldable pub call_in : List ℕ → Meaning
call_in w =
    cond (begins verdict_word w) (cond (eqb (length w) 7) (call asks_verdict) malformed)
    (cond (begins row_word w) (row_by (parse_bytes (drop 4 w)))
    (cond (begins column_word w) (column_by (parse_bytes (drop 7 w)))
    (cond (begins open_word w) (open_fields (up_to 32 (drop 5 w)) (past 32 (drop 5 w)))
    (cond (begins deliver_word w) (deliver_fields (up_to 32 (drop 8 w)) (past 32 (drop 8 w)))
    (cond (begins withdraw_word w) (withdraw_by (parse_number (drop 9 w))) malformed)))))

abbrev pub line_in : List ℕ → Meaning
line_in w = cond (eqb (length w) 0) again (call_in w)

-- ---- what the code answers. The bytes of a file and of a delivery are still to be read, from an
-- index on
abbrev pub line_means : List ℕ → Line → Meaning
line_means w Empty = again
line_means w Row = row_by (parse_bytes (drop 4 w))
line_means w Column = column_by (parse_bytes (drop 7 w))
line_means w (Open width bands) = call (opens width bands)
line_means w (Deliver p from) = deliver_by (some p) (parse_bytes (drop from w))
line_means w (Withdraw p) = call (withdraws p)
line_means w Verdict = call asks_verdict
line_means w Malformed = malformed

abbrev pub bytes_from : Line → ℕ
bytes_from Empty = 0
bytes_from Row = 4
bytes_from Column = 7
bytes_from (Open width bands) = 0
bytes_from (Deliver p from) = from
bytes_from (Withdraw p) = 0
bytes_from Verdict = 0
bytes_from Malformed = 0

pub record Parsed (w : List ℕ) (r : Line) : Type 0 where
  pub means : line_in w ≡ line_means w r
  pub inside : bytes_from r ≤ length w
