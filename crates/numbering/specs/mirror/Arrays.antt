-- What two arrays hold of numbered keys while a loop numbers them: the keys, and the table of what
-- each leads to. The numbered keys are the first cells of the array of keys, and the cells past
-- them are 0; `free` stands in a cell of the table that is not in use. Nothing here needs to be
-- believed: contracts of functions cite it.
--
--   limited l         how many the keys l are; none where there are more than 512
--   turn_of skips l m  the turn of the key m after the keys l: its number and how many keys there
--                     are then; none where it is the 513th
--   found_in l m      the number of the key m among the keys l, or none
--   key_cells l       the keys l as an array, the first 512 where there are more
--   Entered           the key m had its turn
--   Cleared           nothing is numbered
--   Stepped           key i was expanded by the symbol s
--   ArraysHold        the arrays hold the keys l and the table's cells before `upto`
--   Grown             the numbered keys became f, and all of them are expanded
--   Stopped           the 513th key turned up, after the keys l, by the symbol s of key i
--   Expanded          all keys were expanded, or it stopped there
--   grown_by a l m    the keys l, with the key m numbered and the keys from there on expanded
--   Added             these are numbered, or the 513th key turned up
--   InRow             what a key leads to is left out or goes to a cell of the key's own row
use Rattle.std.specs.Prelude.{◌≡◌, Bool, false, cond, ◌&&◌, ◌||◌, List, [], ℕ, ◌+◌, ◌*◌, ◌/◌, ◌%◌, ◌≤◌, ◌<◌, min, ltb, length, get_or, set}
use Rattle.std.proofs.Math.Option.{Option, none, some}
use Rattle.limits.specs.Limits.{most_symbols, most_sets, table_cells}
use Rattle.base.specs.Lists.{list_from}
use Rattle.numbering.specs.Numbering.{Walk, index_of, numbered, close_from}
use Rattle.numbering.specs.mirror.Begins.{Begins}

abbrev pub limited : List ℕ → Option ℕ
limited l = cond (ltb most_sets (length l)) none (some (length l))

abbrev pub found_in : List ℕ → ℕ → Option ℕ
found_in l m = cond (ltb (index_of l m) (length l)) (some (index_of l m)) none

abbrev pub key_cells : List ℕ → List ℕ
key_cells l = list_from 0 most_sets (λ i. get_or l i 0)

abbrev pub turn_of : (ℕ → Bool) → List ℕ → ℕ → Option (ℕ × ℕ)
turn_of skips l m = let f = numbered skips l m in cond (ltb most_sets (length f)) none (some (index_of f m, length f))

pub record Entered (skips : ℕ → Bool) (l : List ℕ) (m : ℕ) (r : Option (ℕ × ℕ)) (keys : List ℕ) : Type 0 where
  pub number : r ≡ turn_of skips l m
  pub keys_are : keys ≡ key_cells (numbered skips l m)

pub record Cleared (free : ℕ) (keys next : List ℕ) : Type 0 where
  pub keys_are : keys ≡ key_cells []
  pub next_are : next ≡ list_from 0 table_cells (λ _. free)

module _ (step : ℕ → ℕ → ℕ) (skips : ℕ → Bool) (l : List ℕ) (i s : ℕ) where
  abbrev pub target : ℕ
  target = step (get_or l i 0) s

  abbrev pub after_step : List ℕ
  after_step = numbered skips l target

  -- the cell of a key that is left out stays as it was, and so does that of the 513th key
  pub record Stepped (r : Option ℕ) (keys next₀ next : List ℕ) : Type 0 where
    pub count : r ≡ limited after_step
    pub keys_are : keys ≡ key_cells after_step
    pub next_are : next ≡ cond (skips target || ltb most_sets (length after_step)) next₀ (set next₀ (i * most_symbols + s) (index_of after_step target))

module _ (a : Walk) (free : ℕ) where
  -- the number of the key m, or `free` where it is left out
  abbrev pub number_or_free : List ℕ → ℕ → ℕ
  number_or_free f m = cond (a.skips m) free (index_of f m)

  -- the table's cell c, where the keys f are numbered and the cells before `upto` are filled
  abbrev pub cell_to : List ℕ → ℕ → ℕ → ℕ
  cell_to f upto c =
      cond (ltb c upto && ltb (c % most_symbols) a.k) (number_or_free f (a.step (get_or f (c / most_symbols) 0) (c % most_symbols))) free

  -- A cell is said for every list that goes on from l, since a key keeps its number.
  pub record ArraysHold (l : List ℕ) (upto : ℕ) (keys next : List ℕ) : Type 0 where
    pub keys_are : keys ≡ key_cells l
    pub next_long : length next ≡ table_cells
    pub cells : (f : List ℕ) → Begins l f → (c : ℕ) → c < table_cells → get_or next c 0 ≡ cell_to f upto c

  pub record Grown (f : List ℕ) (r : Option ℕ) (keys next : List ℕ) : Type 0 where
    pub count : r ≡ limited f
    pub held : length f ≤ most_sets → ArraysHold f (length f * most_symbols) keys next

  pub record Stopped (f keys next : List ℕ) : Type 0 where
    pub l : List ℕ
    pub i : ℕ
    pub s : ℕ
    pub few : length l ≤ most_sets
    pub row : i < length l
    pub symbol : s < a.k
    pub keys₀ : List ℕ
    pub next₀ : List ℕ
    pub held : ArraysHold l (i * most_symbols + min s most_symbols) keys₀ next₀
    pub last : Stepped a.step a.skips l i s none keys next₀ next
    pub goes_on : Begins (after_step a.step a.skips l i s) f

  pub record Expanded (f : List ℕ) (r : Option ℕ) (keys next : List ℕ) : Type 0 where
    pub grown : Grown f r keys next
    pub stopped : most_sets < length f → Stopped f keys next

  abbrev pub grown_by : List ℕ → ℕ → List ℕ
  grown_by l m = close_from a most_sets (length l) (numbered a.skips l m)

  pub record Added (l : List ℕ) (m : ℕ) (r : Option ℕ) (keys next : List ℕ) : Type 0 where
    pub grown : Grown (grown_by l m) r keys next
    pub stopped : length (numbered a.skips l m) ≤ most_sets → most_sets < length (grown_by l m) → Stopped (grown_by l m) keys next

abbrev pub InRow : Walk → Type 0
InRow a = (m s : ℕ) → s < a.k → a.skips (a.step m s) ≡ false → s < most_symbols
