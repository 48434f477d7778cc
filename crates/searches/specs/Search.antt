-- A search for a text over the keys that a walk of numbering finds from one key: the first key with
-- a test has the text, which is read off the table of keys on the way back to key 0. Nothing here
-- needs to be believed: samples and compare say that it gives the answer that is due.
--
--   first_where t l      the place of the first member of l with t; the list's length if none has
--   first_cell cells j   the first cell of the table that holds j
--   word_to cells j      the symbols of the first cells on the way back from j to 0, the last first
use Rattle.std.specs.Prelude.{Bool, cond, List, [], ◌∷◌, ◌++◌, ℕ, zero, suc, ◌/◌, ◌%◌, eqb}
use Rattle.limits.specs.Limits.{most_symbols}
use Rattle.numbering.specs.Numbering.{index_of}

unfoldable pub first_where : (ℕ → Bool) → List ℕ → ℕ
first_where t [] = 0
first_where t (x ∷ l) = cond (t x) 0 (suc (first_where t l))

abbrev pub first_cell : List ℕ → ℕ → ℕ
first_cell cells j = index_of cells j

-- for at most `left` keys: each has a lower number than the one before, so j are enough
unfoldable pub word_back : List ℕ → ℕ → ℕ → List ℕ
word_back cells zero j = []
word_back cells (suc left) j =
    let c = first_cell cells j in
    cond (eqb j 0) [] (word_back cells left (c / most_symbols) ++ ((c % most_symbols) ∷ []))

abbrev pub word_to : List ℕ → ℕ → List ℕ
word_to cells j = word_back cells j j
