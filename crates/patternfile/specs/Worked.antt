-- Patterns worked by hand: one list, and one claim over it. proofs/Examples.antt proves the claim.
--
--   nothing          the empty pattern: the empty text
--   starred_bracket  `a()*b`: an empty bracket is the empty text, however often
--   bindings         `a|bc*`: the bar binds loosest, the star tightest
--   skipped          `p*o*|(ap)*`: what may be empty is skipped
--   twice            `a|a`: the same letter is two positions, and two states
--   letters n        the letter a so many times
--   starred n        the letter a so many times, and stars up to 128 bytes in all
--   chain            of 31 letters and stars: a state leads to the next, the last one to itself,
--                    and the last two are final
--   case b o f       the bytes b, their number, none where they are accepted, and their file
--   patterns         the list
--   Answered cases   each pattern has the number and the file beside it
use Rattle.std.specs.Prelude.{◌≡◌, List, [], ◌∷◌, ◌++◌, ℕ, suc, ◌+◌, ◌*◌, ◌-◌, replicate}
use Rattle.std.proofs.Math.Option.{Option, none, some}
use Rattle.base.specs.Lists.{joined}
use Rattle.patternfile.specs.Answers.{pattern_number, pattern_file}

abbrev pub nothing : List ℕ
nothing =
    0x01 ∷ 0x10 ∷ 0x01 ∷ 0x00 ∷ 0x00 ∷ 0x00 ∷ 0x01 ∷ 0x00 ∷ 0x00 ∷ 0x00 ∷ 0x0E ∷ 0x00 ∷
    0x00 ∷ 0x00 ∷ []

abbrev pub starred_bracket : List ℕ
starred_bracket =
    0x03 ∷ 0x10 ∷ 0x01 ∷ 0x00 ∷ 0x00 ∷ 0x00 ∷ 0x04 ∷ 0x00 ∷ 0x00 ∷ 0x00 ∷ 0x16 ∷ 0x00 ∷
    0x02 ∷ 0x00 ∷ 0x18 ∷ 0x00 ∷ 0x02 ∷ 0x00 ∷ 0x1A ∷ 0x00 ∷ 0x00 ∷ 0x00 ∷ 0x00 ∷ 0x01 ∷
    0x01 ∷ 0x02 ∷ []

abbrev pub bindings : List ℕ
bindings =
    0x04 ∷ 0x10 ∷ 0x01 ∷ 0x00 ∷ 0x00 ∷ 0x00 ∷ 0x0E ∷ 0x00 ∷ 0x00 ∷ 0x00 ∷ 0x1A ∷ 0x00 ∷
    0x04 ∷ 0x00 ∷ 0x1E ∷ 0x00 ∷ 0x00 ∷ 0x00 ∷ 0x1E ∷ 0x00 ∷ 0x02 ∷ 0x00 ∷ 0x20 ∷ 0x00 ∷
    0x02 ∷ 0x00 ∷ 0x00 ∷ 0x01 ∷ 0x01 ∷ 0x02 ∷ 0x02 ∷ 0x03 ∷ 0x02 ∷ 0x03 ∷ []

abbrev pub skipped : List ℕ
skipped =
    0x05 ∷ 0x10 ∷ 0x01 ∷ 0x00 ∷ 0x00 ∷ 0x00 ∷ 0x17 ∷ 0x00 ∷ 0x00 ∷ 0x00 ∷ 0x1E ∷ 0x00 ∷
    0x06 ∷ 0x00 ∷ 0x24 ∷ 0x00 ∷ 0x04 ∷ 0x00 ∷ 0x28 ∷ 0x00 ∷ 0x02 ∷ 0x00 ∷ 0x2A ∷ 0x00 ∷
    0x02 ∷ 0x00 ∷ 0x2C ∷ 0x00 ∷ 0x02 ∷ 0x00 ∷ 0x00 ∷ 0x03 ∷ 0x0E ∷ 0x02 ∷ 0x0F ∷ 0x01 ∷
    0x0E ∷ 0x02 ∷ 0x0F ∷ 0x01 ∷ 0x0E ∷ 0x02 ∷ 0x0F ∷ 0x04 ∷ 0x00 ∷ 0x03 ∷ []

abbrev pub twice : List ℕ
twice =
    0x03 ∷ 0x10 ∷ 0x01 ∷ 0x00 ∷ 0x00 ∷ 0x00 ∷ 0x06 ∷ 0x00 ∷ 0x00 ∷ 0x00 ∷ 0x16 ∷ 0x00 ∷
    0x04 ∷ 0x00 ∷ 0x1A ∷ 0x00 ∷ 0x00 ∷ 0x00 ∷ 0x1A ∷ 0x00 ∷ 0x00 ∷ 0x00 ∷ 0x00 ∷ 0x01 ∷
    0x00 ∷ 0x02 ∷ []

abbrev pub letters : ℕ → List ℕ
letters n = replicate n 97

abbrev pub starred : ℕ → List ℕ
starred n = letters n ++ replicate (128 - n) 42

-- 32 states; each has one arc, and its pair says 2 bytes from 138 on
abbrev pub chain : List ℕ
chain =
    0x20 ∷ 0x10 ∷ 0x01 ∷ 0x00 ∷ 0x00 ∷ 0x00 ∷ 0x00 ∷ 0x00 ∷ 0x00 ∷ 0xC0 ∷
    (joined (λ q. (138 + 2 * q) ∷ 0 ∷ 2 ∷ 0 ∷ []) 32 ++
    (joined (λ q. 0 ∷ suc q ∷ []) 31 ++
    (0 ∷ 31 ∷ [])))

pub data Case : Type 0 where
  case : List ℕ → Option ℕ → List ℕ → Case

abbrev pub patterns : List Case
patterns =
    case [] none nothing ∷
    case (97 ∷ 40 ∷ 41 ∷ 42 ∷ 98 ∷ []) none starred_bracket ∷
    case (97 ∷ 124 ∷ 98 ∷ 99 ∷ 42 ∷ []) none bindings ∷
    case (112 ∷ 42 ∷ 111 ∷ 42 ∷ 124 ∷ 40 ∷ 97 ∷ 112 ∷ 41 ∷ 42 ∷ []) none skipped ∷
    case (97 ∷ 124 ∷ 97 ∷ []) none twice ∷
    -- 31 letters in 128 bytes, the most of both
    case (starred 31) none chain ∷
    -- 30: a byte more
    case (starred 31 ++ (42 ∷ [])) (some 30) [] ∷
    -- 32: a letter more, in 128 bytes
    case (starred 32) (some 32) [] ∷
    -- 30: 129 letters, though 32 holds too
    case (letters 129) (some 30) [] ∷
    -- 31: 40 letters and an open bracket, though 32 holds too
    case (letters 40 ++ (40 ∷ [])) (some 31) [] ∷
    -- 32: 32 letters
    case (letters 32) (some 32) [] ∷
    -- 31: `*a`, `a|*`, `(*a)`, where a star stands after nothing
    case (42 ∷ 97 ∷ []) (some 31) [] ∷
    case (97 ∷ 124 ∷ 42 ∷ []) (some 31) [] ∷
    case (40 ∷ 42 ∷ 97 ∷ 41 ∷ []) (some 31) [] ∷
    -- 31: `(a` and `a)(b`, where brackets do not match
    case (40 ∷ 97 ∷ []) (some 31) [] ∷
    case (97 ∷ 41 ∷ 40 ∷ 98 ∷ []) (some 31) [] ∷
    -- 31: `q`, a space and a line feed, which are no letters
    case (113 ∷ []) (some 31) [] ∷
    case (32 ∷ []) (some 31) [] ∷
    case (10 ∷ []) (some 31) [] ∷ []

abbrev pub Answered : List Case → Type 0
Answered [] = Unit {0}
Answered (case b number file ∷ cases) = (pattern_number b ≡ number) × (pattern_file b ≡ file) × Answered cases
