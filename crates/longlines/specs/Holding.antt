-- A line of any length, of which a buffer has the beginning: what the code makes of any buffer
-- and any value, whether they fit each other or not. specs/Claims.antt says what it comes to
-- where they keep a line.
--
--   line_begin                what is held where a line begins: nothing
--   kept_length buffer h      how many bytes of the line the buffer has
--   taken buffer h piece      how many bytes of the piece the buffer takes
--   odd_with odd more         whether a number is odd with so many more
--   held_after, buffer_after  what is held after the line went on with the piece, and the whole
--                             buffer then
--   standing odd n            of n bytes, how many stand for the line: one less where the bytes
--                             left out are odd in number
--   seen_of buffer h          how many bytes of the buffer stand for the line that is held, and
--                             whether those that they leave out are hex digits
--   meaning_by f bad buffer n hex  the meaning of the first n bytes, where f says what a line means
--                             and all others are hex digits; else it is `bad`
--   held_meaning f bad buffer h    what the line that is held means so: the bytes that stand for it
--                             decide, and what the others are
use Rattle.std.specs.Prelude.{Bool, true, false, cond, not, ◌&&◌, List, ℕ, ◌+◌, ◌-◌, ◌%◌, min, eqb, length, take, drop}
use Rattle.text.specs.Writing.{written}
use Rattle.fields.specs.Bytes.{all_hex}
use Rattle.longlines.specs.declared.Held.{Held}
use Rattle.longlines.specs.declared.Seen.{Seen}

abbrev pub line_begin : Held
line_begin = record { length = 0; hex = true; odd = false }

abbrev pub kept_length : List ℕ → Held → ℕ
kept_length buffer h = min h.length (length buffer)

-- ---- a piece more
abbrev pub taken : List ℕ → Held → List ℕ → ℕ
taken buffer h piece = min (length piece) (length buffer - kept_length buffer h)

abbrev pub odd_with : Bool → ℕ → Bool
odd_with odd more = cond (eqb (more % 2) 1) (not odd) odd

unfoldable pub held_after : List ℕ → Held → List ℕ → Held
held_after buffer h piece = record {
  length = kept_length buffer h + taken buffer h piece;
  hex = h.hex && all_hex (drop (taken buffer h piece) piece);
  odd = odd_with h.odd (length piece - taken buffer h piece);
}

unfoldable pub buffer_after : List ℕ → Held → List ℕ → List ℕ
buffer_after buffer h piece = written buffer (kept_length buffer h) (take (taken buffer h piece) piece)

-- ---- the line has ended
abbrev pub standing : Bool → ℕ → ℕ
standing odd n = cond odd (n - 1) n

unfoldable pub seen_of : List ℕ → Held → Seen
seen_of buffer h =
    let len = kept_length buffer h in
    let n = standing h.odd len in
    record { length = n; hex = h.hex && all_hex (take (len - n) (drop n buffer)) }

module _ {A : Type 0} (f : List ℕ → A) (bad : A) (buffer : List ℕ) where
  abbrev pub meaning_by : ℕ → Bool → A
  meaning_by n hex = cond hex (f (take n buffer)) bad

  abbrev pub held_meaning : Held → A
  held_meaning h = let s = seen_of buffer h in meaning_by s.length s.hex
