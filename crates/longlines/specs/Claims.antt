-- What a buffer and a value keep of a line, whatever its length, and that it has the meaning of the
-- whole line; proofs/Claimed.antt proves the claims.
--
--   Keeps buffer h w       the buffer and h keep the line w: as much of it as the buffer takes, and
--                          of the rest whether each byte is a hex digit and whether there is an odd
--                          number of them
--   TellsWithin room f bad   a line that goes on beyond `room` bytes means by f what its beginning
--                          means, if the rest is hex digits, even in number; and `bad` if it is not
--                          hex digits. So such a line is told by its beginning and by whether the
--                          rest is hex digits and whether they are odd in number
use Rattle.std.specs.Prelude.{◌≡◌, true, false, List, [], ◌++◌, ℕ, ◌+◌, ◌%◌, ◌≤◌, min, eqb, length, take, drop}
use Rattle.fields.specs.Bytes.{all_hex}
use Rattle.longlines.specs.declared.Held.{Held}
use Rattle.longlines.specs.Holding.{line_begin, held_after, buffer_after, held_meaning}

pub record Keeps (buffer : List ℕ) (h : Held) (w : List ℕ) : Type 0 where
  pub size : h.length ≡ min (length w) (length buffer)
  pub head : take h.length buffer ≡ take (length buffer) w
  pub hex : h.hex ≡ all_hex (drop (length buffer) w)
  pub odd : h.odd ≡ eqb (length (drop (length buffer) w) % 2) 1

pub record TellsWithin {A : Type 0} (room : ℕ) (f : List ℕ → A) (bad : A) : Type 0 where
  pub stray : (v t : List ℕ) → room ≤ length v → all_hex t ≡ false → f (v ++ t) ≡ bad
  pub hex : (v t : List ℕ) → room ≤ length v → all_hex t ≡ true → length t % 2 ≡ 0 → f v ≡ f (v ++ t)

pub record Claims : Type 1 where
  -- at first the empty line is kept, whatever the buffer has in it
  pub begins : (buffer : List ℕ) → Keeps buffer line_begin []
  -- a piece goes behind the line that is kept
  pub goes_on : (buffer : List ℕ) (h : Held) (w piece : List ℕ) → Keeps buffer h w
      → Keeps (buffer_after buffer h piece) (held_after buffer h piece) (w ++ piece)
  -- the buffer keeps its length, also where it keeps no line
  pub same_size : (buffer : List ℕ) (h : Held) (piece : List ℕ) → length (buffer_after buffer h piece) ≡ length buffer
  -- what is kept has the meaning of the whole line, where the buffer has one byte more than the
  -- room in which lines are told apart: that byte makes an odd rest even
  pub means : {A : Type 0} (room : ℕ) (f : List ℕ → A) (bad : A) → TellsWithin room f bad
      → (buffer : List ℕ) (h : Held) (w : List ℕ) → room + 1 ≤ length buffer → Keeps buffer h w → held_meaning f bad buffer h ≡ f w
