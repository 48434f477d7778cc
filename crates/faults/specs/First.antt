-- The first of several values that may be missing.
--
--   or_else o u       o, and u where o is missing
--   or_then o x      the value of o, and x where it is missing
--   first_found f n  the first of f 0, f 1, .. f (n − 1) that there is
use Rattle.std.proofs.Math.Option.{Option, none, some}
use Rattle.std.specs.Prelude.{ℕ, zero, suc}

abbrev pub or_else : {A : Type 0} → Option A → Option A → Option A
or_else none u = u
or_else (some x) u = some x

abbrev pub or_then : {A : Type 0} → Option A → A → A
or_then none x = x
or_then (some y) x = y

unfoldable pub first_found : {A : Type 0} → (ℕ → Option A) → ℕ → Option A
first_found f zero = none
first_found f (suc n) = or_else (first_found f n) (f n)
