-- `own_set` meets its contract: a bit below 8 is not lost. Assumes nothing.
use mathlib.Core.Path.{◌∙◌}
use native.Mathlib.Nat.{one-mul}
use native.Mathlib.Omega.{arith}
use lib.Dec.{lit<}
use lib.Pow.{shl_exact}
use borrow.Author.Tests.{lt-ltb, le-ltb}
use Rattle.mappings.proofs.own_set.Goals as goal

pub returns-then-q-n : goal.returns-then-q-n
returns-then-q-n c = rw (lt-ltb c.args.q c.args.n c.if-q-n.true) (shl_exact 1 c.args.q 8 (lit< tt) (omega arith) ∙ one-mul _)

pub returns-else-q-n : goal.returns-else-q-n
returns-else-q-n c = rw (le-ltb c.args.q c.args.n c.if-q-n.false)
