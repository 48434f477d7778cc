-- Every call but an installation has a line, and so has every rule file; reading the line gives the
-- call or the file again. A line means it only if it is that line, but for leading zeros and the
-- case of hex digits. proofs/Exact.antt proves it.
--
--   Fits m      the numbers of the meaning m have 64 bits, and its bytes are bytes; a line has no
--               rule by value, so an installation has no line of its own
--   line_of m    the line of the meaning m, without its line feed
--   SaysCall l c, SaysLine l m   the line l is the word of the call c, or of the meaning m, and its
--               fields, one space between them: each number with leading zeros or without, the bytes
--               in either case. No line says an installation by value
use Rattle.std.specs.Prelude.{◌≡◌, ◌↔◌, List, [], ◌∷◌, ◌++◌, ℕ, ◌≤◌}
use Rattle.limits.specs.Limits.{largest_number}
use Rattle.text.specs.Numerals.{decimal}
use Rattle.fields.specs.Claims.{AllBytes, field_of, SaysNumber, SaysBytes}
use Rattle.trays.specs.Calls.{Call, installs_row, installs_column, opens, delivers, withdraws, asks_verdict}
use Rattle.traytext.specs.Lines.{Meaning, again, call, row_file, column_file, malformed, row_word, column_word, open_word, deliver_word, withdraw_word, verdict_word, line_in}

abbrev pub FitsCall : Call → Type 0
FitsCall (installs_row r) = ⊥
FitsCall (installs_column r) = ⊥
FitsCall (opens w n) = (w ≤ largest_number) × (n ≤ largest_number)
FitsCall (delivers p b) = (p ≤ largest_number) × AllBytes b
FitsCall (withdraws p) = p ≤ largest_number
FitsCall asks_verdict = Unit {0}

abbrev pub Fits : Meaning → Type 0
Fits again = Unit {0}
Fits (call c) = FitsCall c
Fits (row_file f) = AllBytes f
Fits (column_file f) = AllBytes f
Fits malformed = ⊥

abbrev pub call_line : Call → List ℕ
call_line (installs_row r) = []
call_line (installs_column r) = []
call_line (opens w n) = open_word ++ (decimal w ++ (32 ∷ decimal n))
call_line (delivers p b) = deliver_word ++ (decimal p ++ (32 ∷ field_of b))
call_line (withdraws p) = withdraw_word ++ decimal p
call_line asks_verdict = verdict_word

abbrev pub line_of : Meaning → List ℕ
line_of again = []
line_of (call c) = call_line c
line_of (row_file f) = row_word ++ field_of f
line_of (column_file f) = column_word ++ field_of f
line_of malformed = []

abbrev pub SaysCall : List ℕ → Call → Type 0
SaysCall l (installs_row r) = ⊥
SaysCall l (installs_column r) = ⊥
SaysCall l (opens w n) = (x y : List ℕ) × (l ≡ open_word ++ (x ++ (32 ∷ y))) × SaysNumber x w × SaysNumber y n
SaysCall l (delivers p b) = (x y : List ℕ) × (l ≡ deliver_word ++ (x ++ (32 ∷ y))) × SaysNumber x p × SaysBytes y b
SaysCall l (withdraws p) = (x : List ℕ) × (l ≡ withdraw_word ++ x) × SaysNumber x p
SaysCall l asks_verdict = l ≡ verdict_word

abbrev pub SaysLine : List ℕ → Meaning → Type 0
SaysLine l again = l ≡ []
SaysLine l (call c) = SaysCall l c
SaysLine l (row_file f) = (x : List ℕ) × (l ≡ row_word ++ x) × SaysBytes x f
SaysLine l (column_file f) = (x : List ℕ) × (l ≡ column_word ++ x) × SaysBytes x f
SaysLine l malformed = ⊥

pub record Claims : Type 0 where
  -- which lines mean anything, and that any other is malformed
  pub line_exactly : (l : List ℕ) (m : Meaning) → (m ≡ malformed → ⊥) → (line_in l ≡ m) ↔ SaysLine l m
  pub malformed_exactly : (l : List ℕ) → (line_in l ≡ malformed) ↔ ((m : Meaning) → SaysLine l m → ⊥)
  -- so every call but an installation has a line, and so has a file
  pub line_round_trip : (m : Meaning) → Fits m → line_in (line_of m) ≡ m
  -- an opening with one number is malformed
  pub one_number : (w : ℕ) → line_in (open_word ++ decimal w) ≡ malformed
