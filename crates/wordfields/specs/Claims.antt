-- Every list of 16-bit numbers has a field, and reading the field gives the numbers again, with
-- zeros after them; proofs/RoundTrip.antt proves it.
--
--   AllWords l    each member of l is a 16-bit number
--   bytes_of l     the numbers l as bytes: two a number, the low one first
use Rattle.std.specs.Prelude.{◌≡◌, List, [], ◌∷◌, ℕ, ◌/◌, ◌%◌, ◌≤◌, ◌<◌, length, get_or}
use Rattle.std.proofs.Math.Option.{some}
use Rattle.base.specs.Lists.{list_from}
use Rattle.fields.specs.Claims.{field_of}
use Rattle.wordfields.specs.Words.{parse_words}

abbrev pub AllWords : List ℕ → Type 0
AllWords [] = Unit {0}
AllWords (x ∷ l) = (x < 65536) × AllWords l

unfoldable pub bytes_of : List ℕ → List ℕ
bytes_of [] = []
bytes_of (x ∷ l) = x % 256 ∷ x / 256 ∷ bytes_of l

pub record Claims : Type 0 where
  pub words_round_trip : (most : ℕ) (l : List ℕ) → length l ≤ most → AllWords l
      → parse_words most (field_of (bytes_of l)) ≡ some (list_from 0 most (λ i. get_or l i 0))
