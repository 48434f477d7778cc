-- The keys from one seed. Assumes that the seed is not left out, and nothing else.
--
--   settled_one           no key is numbered before the seed has its turn
--   from_one              the procedure from the seed alone
--   first_key, some_key   the seed has the number 0
use mathlib.Core.Path.{◌≡◌, ap, ◌∙◌}
use mathlib.Core.Bool.{false}
use mathlib.Core.List.{List, [], ◌∷◌}
use Prim.Native.Nat.{ℕ, ◌≤◌, ◌<◌}
use native.Mathlib.Omega.{arith}
use lib.ListN.{length, get_or}
use Rattle.numbering.specs.Numbering.{Walk, index_of, numbered, close_from, keys_up_to}
use Rattle.numbering.specs.mirror.Begins.{Begins}
use Rattle.numbering.proofs.Numbers.{begins_at, begins_length}
use Rattle.numbering.proofs.Closure.{close_begins, settled}

pub settled_one : (a : Walk) (m : ℕ) → length (settled a (λ _. m) 1) ≤ 512
unfolding keys_up_to
settled_one a m = omega arith

module _ (a : Walk) (m : ℕ) (kept : a.skips m ≡ false) where
  pub from_one : keys_up_to a (λ _. m) 1 ≡ close_from a 512 0 (m ∷ [])
  unfolding keys_up_to numbered index_of
  from_one = rw kept

  begins : Begins (m ∷ []) (close_from a 512 0 (m ∷ []))
  begins = close_begins a 512 0 (m ∷ [])

  pub first_key : get_or (keys_up_to a (λ _. m) 1) 0 0 ≡ m
  first_key = ap (λ (l : List ℕ). get_or l 0 0) from_one ∙ begins_at begins 0 (omega arith)

  pub some_key : 0 < length (keys_up_to a (λ _. m) 1)
  some_key = rw from_one (omega (arith, begins_length begins))
