-- `only_symbol` meets its contract: 1 shifted by less than the width loses nothing. Assumes nothing.
use mathlib.Core.Path.{◌∙◌}
use Prim.Native.Nat.{ℕ, ◌^◌}
use native.Mathlib.Nat.{one-mul}
use native.Mathlib.Omega.{arith}
use lib.Dec.{lit<}
use lib.Pow.{shl_exact}
use borrow.Author.Rules.{rules}
use Rattle.masks.proofs.only_symbol.Statement.{statement}
use Rattle.masks.proofs.only_symbol.Tie as tie

returns : tie.Need-returns
returns c =
    let q : ℕ = c.args.symbol in
    shl_exact 1 q 16 (lit< tt) (omega arith) ∙ one-mul (2 ^ q)

pub only_symbol_spec : {M : Type 1} → statement M
only_symbol_spec = tie.close (tie.spec (λ c. search rules) (λ c. search rules) returns)
