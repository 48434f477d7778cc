-- What the answers of the functions below `number_by` say, whose promises are in the words of
-- numbering's specs/Arrays.antt. Nothing here needs to be believed: `table_by` says what they give.
--
--   found_means      what the search's answer says: the key's number, none where it has none
--   turn_means       what a turn's answer says: the key's number and how many keys there are then,
--                    none where it is the 513th
use Rattle.std.specs.Prelude as code
use Rattle.std.specs.Prelude.{ℕ, Some, None}
use Rattle.std.proofs.Math.Option.{Option, none, some}
use Rattle.keys.specs.declared.KeyNumber.{KeyNumber}

abbrev pub found_means : code.Option KeyNumber → Option ℕ
found_means (Some number) = some number.0
found_means None = none

abbrev pub turn_means : code.Option (KeyNumber × ℕ) → Option (ℕ × ℕ)
turn_means (Some (number, count)) = some (number.0, count)
turn_means None = none
