-- For whoever reads: what is counted is within the buffer. Assumes nothing.
--
--   input_within, input_prefix   of what `read_all` answers
use Rattle.std.specs.Prelude.{◌≡◌, ◌≤◌, List, ℕ, length, take}
use Rattle.std.proofs.Common.{subst}
use Rattle.stdio.specs.declared.Input.{Input}
use Rattle.stdio.specs.declared.Input.TheVariants as input
use Rattle.stdio.specs.Blocks.{Whole}

module _ (i : Input) (xs : List ℕ) (whole : Whole i xs) (n : ℕ) (is : i ≡ input.Bytes n) where
  pub input_within : n ≤ length xs
  input_within = (subst (λ (x : Input). Whole x xs) is whole).0

  pub input_prefix : n ≡ length (take n xs)
  input_prefix = (subst (λ (x : Input). Whole x xs) is whole).1
