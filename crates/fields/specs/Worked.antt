-- Hex digits worked by hand: one list, and one claim over it. proofs/Examples.antt proves it.
--
--   case c said     the byte c, and what the field `0` and c says, if it says bytes
--   digits          the list: every hex digit of either case, and the bytes next to them
--   Read cases      each field says what stands beside it
use Rattle.std.specs.Prelude.{◌≡◌, List, [], ◌∷◌, ℕ}
use Rattle.std.proofs.Math.Option.{Option, none, some}
use Rattle.fields.specs.Bytes.{parse_bytes}

pub data Case : Type 0 where
  case : ℕ → Option (List ℕ) → Case

abbrev pub digits : List Case
digits =
    -- 0 to 9
    case 48 (some (0 ∷ [])) ∷ case 49 (some (1 ∷ [])) ∷ case 50 (some (2 ∷ [])) ∷ case 51 (some (3 ∷ [])) ∷ case 52 (some (4 ∷ [])) ∷
    case 53 (some (5 ∷ [])) ∷ case 54 (some (6 ∷ [])) ∷ case 55 (some (7 ∷ [])) ∷ case 56 (some (8 ∷ [])) ∷ case 57 (some (9 ∷ [])) ∷
    -- A to F, a to f
    case 65 (some (10 ∷ [])) ∷ case 66 (some (11 ∷ [])) ∷ case 67 (some (12 ∷ [])) ∷ case 68 (some (13 ∷ [])) ∷ case 69 (some (14 ∷ [])) ∷ case 70 (some (15 ∷ [])) ∷
    case 97 (some (10 ∷ [])) ∷ case 98 (some (11 ∷ [])) ∷ case 99 (some (12 ∷ [])) ∷ case 100 (some (13 ∷ [])) ∷ case 101 (some (14 ∷ [])) ∷ case 102 (some (15 ∷ [])) ∷
    -- the bytes next to them
    case 47 none ∷ case 58 none ∷ case 64 none ∷ case 71 none ∷ case 96 none ∷ case 103 none ∷ []

abbrev pub Read : List Case → Type 0
Read [] = Unit {0}
Read (case c said ∷ cases) = (parse_bytes (48 ∷ c ∷ []) ≡ said) × Read cases
