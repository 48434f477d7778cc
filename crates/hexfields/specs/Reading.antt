-- What the code does with a byte more of a field that it reads into a lent buffer, on any value and
-- any buffer; and what it keeps: of the bytes, as many as the buffer has room for, at its start.
--
--   PairPut, pair_of b at high low   a pair of digits: where the next one goes, and the buffer
--   PartRead, read_of b p c    a byte more: what of the field has been read then, and the buffer
--   Kept bytes n buffer       the first n bytes of the buffer are the bytes, as many as fit
--   PutsPair before at ..     whatever bytes it kept, it keeps the one of a pair of digits after them
--   Keeps b part buffer       `part` and the buffer keep what was read
--   ReadsOn before part c ..  whatever they kept, with the byte c more they keep it; the buffer
--                             keeps its length
--   end_of part                how many bytes stand in the buffer where the field ends here, if it
--                             is one
--   Tells o said buffer       the bytes o, if there are any, stand at the start of the buffer
use Rattle.std.specs.Prelude.{◌≡◌, cond, List, [], ◌∷◌, ◌++◌, ℕ, ◌+◌, ◌*◌, ◌%◌, ◌<◌, eqb, ltb, length, take, set}
use Rattle.std.proofs.Math.Option.{Option, none, some}
use Rattle.fields.specs.Bytes.{hex_value}
use Rattle.hexfields.specs.declared.Part.{Part}
use Rattle.hexfields.specs.declared.Part.TheVariants as part
use Rattle.hexfields.specs.Fields.{Begun, nothing, dash, even, odd, stray, is_digit, goes_on}

-- ---- on any value
pub record PairPut : Type 0 where
  pub end : ℕ
  pub buffer : List ℕ

abbrev pub pair_of : List ℕ → ℕ → ℕ → ℕ → PairPut
pair_of b at high low =
    cond (ltb at (length b)) (record { end = at + 1; buffer = set b at (16 * (high % 16) + low % 16) }) (record { end = at; buffer = b })

pub record PartRead : Type 0 where
  pub part : Part
  pub buffer : List ℕ

abbrev pub read_to : List ℕ → Part → PartRead
read_to b p = record { part = p; buffer = b }

abbrev pub read_of : List ℕ → Part → ℕ → PartRead
read_of b part.Nothing c = cond (is_digit c) (read_to b (part.Odd 0 (hex_value c))) (cond (eqb c 45) (read_to b part.Dash) (read_to b part.Stray))
read_of b part.Dash c = read_to b part.Stray
read_of b (part.Even n) c = cond (is_digit c) (read_to b (part.Odd n (hex_value c))) (read_to b part.Stray)
read_of b (part.Odd n high) c =
    let pair = pair_of b n high (hex_value c) in
    cond (is_digit c) (read_to pair.buffer (part.Even pair.end)) (read_to b part.Stray)
read_of b part.Stray c = read_to b part.Stray

-- ---- what is kept
pub record Kept (bytes : List ℕ) (n : ℕ) (buffer : List ℕ) : Type 0 where
  pub size : n ≡ length (take (length buffer) bytes)
  pub is : take n buffer ≡ take (length buffer) bytes

pub data Keeps : Begun → Part → List ℕ → Type 0 where
  keeps_nothing : {buffer : List ℕ} → Keeps nothing part.Nothing buffer
  keeps_dash : {buffer : List ℕ} → Keeps dash part.Dash buffer
  keeps_even : {bytes buffer : List ℕ} {n : ℕ} → Kept bytes n buffer → Keeps (even bytes) (part.Even n) buffer
  keeps_odd : {bytes buffer : List ℕ} {n high : ℕ} → high < 16 → Kept bytes n buffer → Keeps (odd bytes high) (part.Odd n high) buffer
  keeps_stray : {buffer : List ℕ} → Keeps stray part.Stray buffer

pub record PutsPair (before : List ℕ) (at high low : ℕ) (after : List ℕ) (end : ℕ) : Type 0 where
  pub same_size : length after ≡ length before
  pub one_more : (bytes : List ℕ) → high < 16 → low < 16 → Kept bytes at before
      → Kept (bytes ++ ((16 * high + low) ∷ [])) end after

pub record ReadsOn (before : List ℕ) (p : Part) (c : ℕ) (after : List ℕ) (r : Part) : Type 0 where
  pub same_size : length after ≡ length before
  pub goes_on : (b : Begun) → Keeps b p before → Keeps (goes_on b c) r after

abbrev pub end_of : Part → Option ℕ
end_of part.Nothing = none
end_of part.Dash = some 0
end_of (part.Even n) = some n
end_of (part.Odd n high) = none
end_of part.Stray = none

abbrev pub Tells : Option (List ℕ) → Option ℕ → List ℕ → Type 0
Tells none said buffer = said ≡ none
Tells (some bytes) said buffer = (n : ℕ) × (said ≡ some n) × Kept bytes n buffer
