-- Every call has a line, and reading the line gives the call again; a line means a call only if it
-- is that line, but for the case of hex digits. proofs/Exact.antt proves it.
--
--   word_of c         the word of the call c, in bytes, with a space behind it; none of an empty line
--   Fits c           the call c has bytes that are bytes, and mappings of eight masks of eight bits
--   fields_of c       its fields as they are written: bytes as hex digits, or `-` for none; mappings
--                    as sixteen each, the earlier chunk's first, and a space between the two
--   line_of c         the line of the call c, without its line feed
--   SaysFields x c   the bytes x are those fields, in either case
--   SaysLine l c     the line l is the word of the call c and its fields
use Rattle.std.specs.Prelude.{◌≡◌, ◌↔◌, List, [], ◌∷◌, ◌++◌, ℕ}
use Rattle.std.proofs.Math.Option.{none, some}
use Rattle.fields.specs.Claims.{AllBytes, field_of, SaysBytes}
use Rattle.mappings.specs.Mappings.{Value}
use Rattle.maptext.specs.MappingText.{mapping_text}
use Rattle.maptext.specs.Claims.{SaysMapping}
use Rattle.mapcalls.specs.Calls.{Call, forgets, builds, runs, composes, asks}
use Rattle.maplines.specs.Lines.{line_in}

-- `build `, `run `, `compose `, `verdict `
abbrev pub word_of : Call → List ℕ
word_of forgets = []
word_of (builds f) = 98 ∷ 117 ∷ 105 ∷ 108 ∷ 100 ∷ 32 ∷ []
word_of (runs w) = 114 ∷ 117 ∷ 110 ∷ 32 ∷ []
word_of (composes f g) = 99 ∷ 111 ∷ 109 ∷ 112 ∷ 111 ∷ 115 ∷ 101 ∷ 32 ∷ []
word_of (asks f) = 118 ∷ 101 ∷ 114 ∷ 100 ∷ 105 ∷ 99 ∷ 116 ∷ 32 ∷ []

abbrev pub Fits : Call → Type 0
Fits forgets = Unit {0}
Fits (builds f) = AllBytes f
Fits (runs w) = AllBytes w
Fits (composes f g) = Value f × Value g
Fits (asks f) = Value f

abbrev pub fields_of : Call → List ℕ
fields_of forgets = []
fields_of (builds f) = field_of f
fields_of (runs w) = field_of w
fields_of (composes f g) = mapping_text f ++ (32 ∷ mapping_text g)
fields_of (asks f) = mapping_text f

abbrev pub line_of : Call → List ℕ
line_of c = word_of c ++ fields_of c

abbrev pub SaysFields : List ℕ → Call → Type 0
SaysFields x forgets = x ≡ []
SaysFields x (builds f) = SaysBytes x f
SaysFields x (runs w) = SaysBytes x w
SaysFields x (composes f g) = (y z : List ℕ) × (x ≡ y ++ (32 ∷ z)) × SaysMapping y f × SaysMapping z g
SaysFields x (asks f) = SaysMapping x f

abbrev pub SaysLine : List ℕ → Call → Type 0
SaysLine l c = (x : List ℕ) × (l ≡ word_of c ++ x) × SaysFields x c

pub record Claims : Type 0 where
  -- which lines mean a call, and that any other is malformed
  pub line_exactly : (l : List ℕ) (c : Call) → (line_in l ≡ some c) ↔ SaysLine l c
  pub malformed_exactly : (l : List ℕ) → (line_in l ≡ none) ↔ ((c : Call) → SaysLine l c → ⊥)
  -- so every call has a line
  pub line_round_trip : (c : Call) → Fits c → line_in (line_of c) ≡ some c
