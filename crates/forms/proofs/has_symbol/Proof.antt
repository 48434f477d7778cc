-- `has_symbol` meets its contract: a shift and a mask give the bit. Assumes nothing.
use mathlib.Core.Path.{ap}
use Prim.Native.Nat.{ℕ, ◌/◌, ◌^◌}
use lib.Bits.{and_mask}
use lib.Dec.{eqb}
use borrow.Author.Rules.{rules}
use Rattle.forms.proofs.has_symbol.Statement.{statement}
use Rattle.forms.proofs.has_symbol.Tie as tie

returns : tie.Need-returns
returns c = ap (λ (x : ℕ). eqb x 1) (and_mask (c.args.mask / 2 ^ c.args.symbol) 1)

pub has_symbol_spec : {M : Type 1} → statement M
has_symbol_spec = tie.close (tie.spec (λ c. search rules) (λ c. search rules) returns)
