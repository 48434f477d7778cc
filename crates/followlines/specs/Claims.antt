-- Every call has a line, and reading the line gives the call again; a line means a call only if it
-- is that line, but for the case of hex digits. proofs/Exact.antt proves it.
--
--   word_of c         the word of the call c, in bytes, with a space behind it; none of an empty line
--   Fits c           the bytes of the call c are bytes
--   fields_of c       its field as it is written: hex digits, or `-` for no bytes
--   line_of c         the line of the call c, without its line feed
--   SaysFields x c   the bytes x are that field, in either case
--   SaysLine l c     the line l is the word of the call c and its field
use Rattle.std.specs.Prelude.{◌≡◌, ◌↔◌, List, [], ◌∷◌, ◌++◌, ℕ}
use Rattle.std.proofs.Math.Option.{none, some}
use Rattle.fields.specs.Claims.{AllBytes, field_of, SaysBytes}
use Rattle.followcalls.specs.Calls.{Call, forgets, begins, follows}
use Rattle.followlines.specs.Lines.{line_in}
use Rattle.followlines.specs.Worked.{Written}

-- `rule `, `next `
abbrev pub word_of : Call → List ℕ
word_of forgets = []
word_of (begins f) = 114 ∷ 117 ∷ 108 ∷ 101 ∷ 32 ∷ []
word_of (follows w) = 110 ∷ 101 ∷ 120 ∷ 116 ∷ 32 ∷ []

abbrev pub Fits : Call → Type 0
Fits forgets = Unit {0}
Fits (begins f) = AllBytes f
Fits (follows w) = AllBytes w

abbrev pub fields_of : Call → List ℕ
fields_of forgets = []
fields_of (begins f) = field_of f
fields_of (follows w) = field_of w

abbrev pub line_of : Call → List ℕ
line_of c = word_of c ++ fields_of c

abbrev pub SaysFields : List ℕ → Call → Type 0
SaysFields x forgets = x ≡ []
SaysFields x (begins f) = SaysBytes x f
SaysFields x (follows w) = SaysBytes x w

abbrev pub SaysLine : List ℕ → Call → Type 0
SaysLine l c = (x : List ℕ) × (l ≡ word_of c ++ x) × SaysFields x c

pub record Claims : Type 0 where
  -- which lines mean a call, and that any other is malformed
  pub line_exactly : (l : List ℕ) (c : Call) → (line_in l ≡ some c) ↔ SaysLine l c
  pub malformed_exactly : (l : List ℕ) → (line_in l ≡ none) ↔ ((c : Call) → SaysLine l c → ⊥)
  -- so every call has a line
  pub line_round_trip : (c : Call) → Fits c → line_in (line_of c) ≡ some c
  -- the answers worked by hand
  pub answers_written : Written
