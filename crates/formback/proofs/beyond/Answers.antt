-- `beyond` meets its contract: 1 shifted by at most 16 is 2 ^ k, which 32 bits hold. Assumes nothing.
use mathlib.Core.Path.{ap, ◌∙◌}
use Prim.Native.Nat.{ℕ, ◌^◌}
use native.Mathlib.Nat.{one-mul}
use native.Mathlib.Omega.{arith}
use lib.Dec.{lit<, leb}
use lib.Pow.{shl_exact}
use Rattle.formback.proofs.beyond.Goals as goal

pub returns : goal.returns
returns c =
    let q : ℕ = c.args.k in
    ap (λ (x : ℕ). leb x c.args.mask) (shl_exact 1 q 32 (lit< tt) (omega arith) ∙ one-mul (2 ^ q))
