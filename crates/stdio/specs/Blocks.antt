-- What the contracts of reading cite.
--
--   Whole i xs    no more bytes were read than the buffer xs has
--   Brings i xs old new   where the bytes that the input has left are known, those that were read stand
--                 at the start of the buffer, and there are no more unless the buffer is full
use Rattle.std.specs.Prelude.{◌≡◌, ◌<◌, ◌≤◌, List, ℕ, length, take, ⊤}
use Rattle.std.specs.Io.KnownBytes.{Consumes, IsAtEnd}
use Rattle.std.specs.declared.option.Option.{Option}
use Rattle.stdio.specs.declared.Input.{Input}
use Rattle.stdio.specs.declared.Input.TheVariants as input

abbrev pub Whole : Input → List ℕ → Type 0
Whole (input.Bytes n) xs = (n ≤ length xs) × (n ≡ length (take n xs))
Whole input.Failed xs = Unit {0}

abbrev pub Brings : Input → List ℕ → Option (List ℕ) → Option (List ℕ) → Type 0
Brings (input.Bytes n) xs old new = Consumes old new (take n xs) × (n < length xs → IsAtEnd new)
Brings input.Failed xs old new = ⊤
