-- The parts of a block of text, and what the lines are that they end.
--
--   Part               a part of a block: the bytes before a line feed, or the last bytes, where
--                      none follows
--   before x ps        the parts with a byte before the first
--   parts_of block      the parts of a block
--   parts_in blocks     the parts of the blocks, one block after the other
--   first_of ps         the first of them
--   part_at block at    the part that begins at an index
--   part_bytes p       the bytes of the line that the part brings
--   part_ends p        the part ends the line
--   part_size p        how many bytes of the block the part takes, with its line feed
--   lines_ended w ps   the lines that the parts end, where w is the beginning of the first
--   line_begun w ps    the beginning of the line that goes on behind them
--   FirstPart block p  p is the first part of the block: it takes some of it, no more than there
--                      is, and the others are the parts of the rest
--   PlaceOf block at r  r says where the part at an index is: its bytes, whether it ends the line, and
--                      where the next part begins
--   TookPart           what the code's result and the line's buffer tell: the line that was held is
--                      held with the part behind it, and where the next part begins
use Rattle.std.specs.Prelude.{◌≡◌, Bool, true, false, cond, List, [], ◌∷◌, ◌++◌, ℕ, ◌+◌, ◌-◌, ◌≤◌, ◌<◌, eqb, length, take, drop}
use Rattle.longlines.specs.declared.Held.{Held}
use Rattle.longlines.specs.Holding.{held_after, buffer_after}
use Rattle.linetexts.specs.declared.Place.{Place}
use Rattle.linetexts.specs.declared.Taken.{Taken}

pub data Part : Type 0 where
  ends : List ℕ → Part
  goes_on : List ℕ → Part

abbrev pub before : ℕ → List Part → List Part
before x [] = goes_on (x ∷ []) ∷ []
before x (ends p ∷ ps) = ends (x ∷ p) ∷ ps
before x (goes_on p ∷ ps) = goes_on (x ∷ p) ∷ ps

unfoldable pub parts_of : List ℕ → List Part
parts_of [] = []
parts_of (x ∷ block) = cond (eqb x 10) (ends [] ∷ parts_of block) (before x (parts_of block))

unfoldable pub parts_in : List (List ℕ) → List Part
parts_in [] = []
parts_in (block ∷ blocks) = parts_of block ++ parts_in blocks

abbrev pub first_of : List Part → Part
first_of [] = goes_on []
first_of (p ∷ ps) = p

abbrev pub part_at : List ℕ → ℕ → Part
part_at block at = first_of (parts_of (drop at block))

abbrev pub part_bytes : Part → List ℕ
part_bytes (ends p) = p
part_bytes (goes_on p) = p

abbrev pub part_ends : Part → Bool
part_ends (ends p) = true
part_ends (goes_on p) = false

abbrev pub part_size : Part → ℕ
part_size (ends p) = length p + 1
part_size (goes_on p) = length p

-- ---- the lines
unfoldable pub lines_ended : List ℕ → List Part → List (List ℕ)
lines_ended w [] = []
lines_ended w (ends p ∷ ps) = (w ++ p) ∷ lines_ended [] ps
lines_ended w (goes_on p ∷ ps) = lines_ended (w ++ p) ps

unfoldable pub line_begun : List ℕ → List Part → List ℕ
line_begun w [] = w
line_begun w (ends p ∷ ps) = line_begun [] ps
line_begun w (goes_on p ∷ ps) = line_begun (w ++ p) ps

pub record FirstPart (block : List ℕ) (p : Part) : Type 0 where
  pub forward : 0 < part_size p
  pub within : part_size p ≤ length block
  pub rest : parts_of block ≡ p ∷ parts_of (drop (part_size p) block)

-- ---- what the code tells
pub record PlaceOf (block : List ℕ) (at : ℕ) (r : Place) : Type 0 where
  pub from : at ≤ r.end
  pub to : r.end ≤ length block
  pub bytes : take (r.end - at) (drop at block) ≡ part_bytes (part_at block at)
  pub next : r.next ≡ at + part_size (part_at block at)
  pub ends : r.ends ≡ part_ends (part_at block at)

pub record TookPart (held : Held) (line : List ℕ) (at : ℕ) (p : Part) (r : Taken) (after : List ℕ) : Type 0 where
  pub held_is : r.held ≡ held_after line held (part_bytes p)
  pub line-is : after ≡ buffer_after line held (part_bytes p)
  pub next : r.at ≡ at + part_size p
  pub ends : r.ends ≡ part_ends p
