-- Digests worked by another program: one list, and one claim over it; proofs/Examples.antt proves
-- it.
--
--   row_A, built_A     the built rule A of document 01, "Two rules by hand", every cell; its table
--                      has the rows that are printed there, with 512 for the empty set
--   another_A          the same, but for one cell of its table: set 4 leads by symbol 1 to set 0
--   case b digest      the built rule b has that digest
--   Digests cases      each has
use Rattle.std.specs.Prelude.{◌≡◌, ℕ, List, [], ◌∷◌, ◌++◌, replicate, slice_set}
use Rattle.limits.specs.Limits.{empty_set}
use Rattle.build.specs.declared.Built.{Built}
use Rattle.build.specs.mirror.Building.{no_built}
use Rattle.digests.specs.Digests.{digest_of}

-- the row of a set that leads to x by symbol 0 and to y by symbol 1
abbrev pub row_A : ℕ → ℕ → List ℕ
row_A x y = x ∷ y ∷ replicate 14 empty_set

abbrev pub built_A : Built
built_A = record {
  n = 3;
  k = 2;
  startcount = 3;
  setcount = 5;
  initials = 1;
  finals = 4;
  delegates = 0 ∷ 1 ∷ 2 ∷ replicate 29 0;
  singles = 0 ∷ 3 ∷ 4 ∷ replicate 29 empty_set;
  sets = 1 ∷ 3 ∷ 5 ∷ 2 ∷ 4 ∷ replicate 507 0;
  next = row_A 1 0 ++ (row_A 1 2 ++ (row_A 1 0 ++ (row_A empty_set 4 ++ (row_A empty_set empty_set ++ replicate 8112 empty_set))));
}

abbrev pub another_A : Built
another_A = record {
  n = built_A.n;
  k = built_A.k;
  startcount = built_A.startcount;
  setcount = built_A.setcount;
  initials = built_A.initials;
  finals = built_A.finals;
  delegates = built_A.delegates;
  singles = built_A.singles;
  sets = built_A.sets;
  next = slice_set built_A.next 65 0;
}

pub data Case : Type 0 where
  case : Built → ℕ → Case

abbrev pub cases : List Case
cases =
    case built_A 9118098542896959263 ∷
    case another_A 4783058143461635262 ∷
    case no_built 0 ∷ []

abbrev pub Digests : List Case → Type 0
Digests [] = Unit {0}
Digests (case b digest ∷ cases) = (digest_of b ≡ digest) × Digests cases
