-- What may be missing: the tests of an `Option`, and the `Option` of the code as one.
--
--   is_none o    there is no value
--   is_some o    there is one
--   option_of o  the value that the code answers, or none where it answers `None`
use Rattle.std.specs.Prelude.{Bool, true, false, Some, None}
use Rattle.std.specs.Prelude as code
use Rattle.std.proofs.Math.Option.{Option, none, some}

abbrev pub is_none : {A : Type 0} → Option A → Bool
is_none none = true
is_none (some x) = false

abbrev pub is_some : {A : Type 0} → Option A → Bool
is_some none = false
is_some (some x) = true

abbrev pub option_of : {A : Type 0} → code.Option A → Option A
option_of None = none
option_of (Some x) = some x
