-- Saved judges, field by field, and digests, worked by another program from the words of the format
-- alone: one list, and one claim over it; proofs/Examples.antt proves it.
--
--   Piece, piece bs n     the bytes bs, and n zeros behind them
--   spelled ps            the pieces ps, one after the other
--   marked                a judge whose arrays have other numbers in the first, the second and the last
--                         cell, and zeros between; no two bytes of its numbers are the same
--   case j ps digest      the judge j is saved as the pieces ps, a field each, an array's last cell by
--                         itself, and behind them the bytes of its digest
--   sum bs h              the digest of the bytes bs is h
--   Saves cases           each is so
use Rattle.std.specs.Prelude.{◌≡◌, ℕ, List, [], ◌∷◌, ◌++◌, replicate}
use Rattle.calls.specs.declared.Judge.{Judge}
use Rattle.calls.specs.mirror.Steps.{fresh}
use Rattle.saved_judge.specs.Digest.{digest_of}
use Rattle.saved_judge.specs.Saved.{saved_of}

pub data Piece : Type 0 where
  piece : List ℕ → ℕ → Piece

unfoldable pub spelled : List Piece → List ℕ
spelled [] = []
spelled (piece bs n ∷ ps) = bs ++ (replicate n 0 ++ spelled ps)

abbrev pub marked : Judge
marked = record {
  built = record {
    n = 1;
    k = 2;
    startcount = 3;
    setcount = 1284;
    initials = 151521030;
    finals = 218893066;
    delegates = 14 ∷ 45 ∷ (replicate 29 0 ++ (46 ∷ []));
    singles = 4111 ∷ 12335 ∷ (replicate 29 0 ++ (12849 ∷ []));
    sets = 336794129 ∷ 909456435 ∷ (replicate 509 0 ++ (976828471 ∷ []));
    next = 5653 ∷ 15419 ∷ (replicate 8189 0 ++ (15933 ∷ []));
  };
  board = record {
    places = 23;
    filled = 24 ∷ 63 ∷ (replicate 61 0 ++ (64 ∷ []));
    counts = 471538201 ∷ 1145258561 ∷ (replicate 61 0 ++ (1212630597 ∷ []));
    lengths = 538910237 ∷ 1280002633 ∷ (replicate 61 0 ++ (1347374669 ∷ []));
    revisions = 2893323226570760737 ∷ 6365651522798441041 ∷ (replicate 61 0 ++ (6944372905503054425 ∷ []));
    ends = 741026345 ∷ 1684234849 ∷ (replicate 2045 0 ++ (1751606885 ∷ []));
  };
}

-- mark, version, length, then a field each
abbrev pub fresh_pieces : List Piece
fresh_pieces =
    piece (66 ∷ []) 0 ∷
    piece (66 ∷ []) 0 ∷
    piece (74 ∷ []) 0 ∷
    piece (1 ∷ []) 0 ∷
    piece (190 ∷ 108 ∷ 0 ∷ 0 ∷ []) 0 ∷
    piece (0 ∷ []) 0 ∷
    piece (0 ∷ []) 0 ∷
    piece (0 ∷ []) 0 ∷
    piece (0 ∷ 0 ∷ []) 0 ∷
    piece (0 ∷ 0 ∷ 0 ∷ 0 ∷ []) 0 ∷
    piece (0 ∷ 0 ∷ 0 ∷ 0 ∷ []) 0 ∷
    piece (0 ∷ []) 31 ∷
    piece (0 ∷ 0 ∷ []) 62 ∷
    piece (0 ∷ 0 ∷ 0 ∷ 0 ∷ []) 2044 ∷
    piece (0 ∷ 0 ∷ []) 16382 ∷
    piece (0 ∷ []) 0 ∷
    piece (0 ∷ []) 63 ∷
    piece (0 ∷ 0 ∷ 0 ∷ 0 ∷ []) 252 ∷
    piece (0 ∷ 0 ∷ 0 ∷ 0 ∷ []) 252 ∷
    piece (0 ∷ 0 ∷ 0 ∷ 0 ∷ 0 ∷ 0 ∷ 0 ∷ 0 ∷ []) 504 ∷
    piece (0 ∷ 0 ∷ 0 ∷ 0 ∷ []) 8188 ∷ []

abbrev pub marked_pieces : List Piece
marked_pieces =
    piece (66 ∷ []) 0 ∷
    piece (66 ∷ []) 0 ∷
    piece (74 ∷ []) 0 ∷
    piece (1 ∷ []) 0 ∷
    piece (190 ∷ 108 ∷ 0 ∷ 0 ∷ []) 0 ∷
    piece (1 ∷ []) 0 ∷
    piece (2 ∷ []) 0 ∷
    piece (3 ∷ []) 0 ∷
    piece (4 ∷ 5 ∷ []) 0 ∷
    piece (6 ∷ 7 ∷ 8 ∷ 9 ∷ []) 0 ∷
    piece (10 ∷ 11 ∷ 12 ∷ 13 ∷ []) 0 ∷
    piece (14 ∷ 45 ∷ []) 29 ∷
    piece (46 ∷ []) 0 ∷
    piece (15 ∷ 16 ∷ 47 ∷ 48 ∷ []) 58 ∷
    piece (49 ∷ 50 ∷ []) 0 ∷
    piece (17 ∷ 18 ∷ 19 ∷ 20 ∷ 51 ∷ 52 ∷ 53 ∷ 54 ∷ []) 2036 ∷
    piece (55 ∷ 56 ∷ 57 ∷ 58 ∷ []) 0 ∷
    piece (21 ∷ 22 ∷ 59 ∷ 60 ∷ []) 16378 ∷
    piece (61 ∷ 62 ∷ []) 0 ∷
    piece (23 ∷ []) 0 ∷
    piece (24 ∷ 63 ∷ []) 61 ∷
    piece (64 ∷ []) 0 ∷
    piece (25 ∷ 26 ∷ 27 ∷ 28 ∷ 65 ∷ 66 ∷ 67 ∷ 68 ∷ []) 244 ∷
    piece (69 ∷ 70 ∷ 71 ∷ 72 ∷ []) 0 ∷
    piece (29 ∷ 30 ∷ 31 ∷ 32 ∷ 73 ∷ 74 ∷ 75 ∷ 76 ∷ []) 244 ∷
    piece (77 ∷ 78 ∷ 79 ∷ 80 ∷ []) 0 ∷
    piece (33 ∷ 34 ∷ 35 ∷ 36 ∷ 37 ∷ 38 ∷ 39 ∷ 40 ∷ 81 ∷ 82 ∷ 83 ∷ 84 ∷ 85 ∷ 86 ∷ 87 ∷ 88 ∷ []) 488 ∷
    piece (89 ∷ 90 ∷ 91 ∷ 92 ∷ 93 ∷ 94 ∷ 95 ∷ 96 ∷ []) 0 ∷
    piece (41 ∷ 42 ∷ 43 ∷ 44 ∷ 97 ∷ 98 ∷ 99 ∷ 100 ∷ []) 8180 ∷
    piece (101 ∷ 102 ∷ 103 ∷ 104 ∷ []) 0 ∷ []

pub data Case : Type 0 where
  case : Judge → List Piece → List ℕ → Case
  sum : List ℕ → ℕ → Case

-- the last three differ in their last five bytes. Without mixing, the first two (+1 -4 +6 -4 +1) would
-- have one digest, and without the square the first and the third (+1 -2 -5 -6 +1)
abbrev pub cases : List Case
cases =
    case fresh fresh_pieces (60 ∷ 45 ∷ 45 ∷ 236 ∷ 48 ∷ 133 ∷ 245 ∷ 115 ∷ []) ∷
    case marked marked_pieces (168 ∷ 105 ∷ 102 ∷ 123 ∷ 30 ∷ 84 ∷ 240 ∷ 138 ∷ []) ∷
    sum [] 0 ∷
    sum (0 ∷ []) 4294967296 ∷
    sum (1 ∷ 2 ∷ 3 ∷ 4 ∷ 5 ∷ 6 ∷ 7 ∷ 8 ∷ 9 ∷ 10 ∷ 11 ∷ 12 ∷ []) 16193993323506161880 ∷
    sum (255 ∷ 255 ∷ 255 ∷ 255 ∷ 255 ∷ 255 ∷ 255 ∷ 255 ∷ 255 ∷ 255 ∷ 255 ∷ 255 ∷ 255 ∷ 255 ∷ 255 ∷ 255 ∷ []) 1686964115152754103 ∷
    sum (0 ∷ 66 ∷ 66 ∷ 74 ∷ 1 ∷ 100 ∷ 100 ∷ 100 ∷ 100 ∷ 100 ∷ []) 2534351290269385619 ∷
    sum (0 ∷ 66 ∷ 66 ∷ 74 ∷ 1 ∷ 101 ∷ 96 ∷ 106 ∷ 96 ∷ 101 ∷ []) 5145207966151607743 ∷
    sum (0 ∷ 66 ∷ 66 ∷ 74 ∷ 1 ∷ 101 ∷ 98 ∷ 95 ∷ 94 ∷ 101 ∷ []) 13232691513014000688 ∷ []

abbrev pub Saves : List Case → Type 0
Saves [] = Unit {0}
Saves (case j ps digest ∷ cases) = (saved_of j ≡ spelled ps ++ digest) × Saves cases
Saves (sum bs h ∷ cases) = (digest_of bs ≡ h) × Saves cases
