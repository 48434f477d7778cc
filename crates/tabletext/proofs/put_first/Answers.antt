-- `put_first` meets its contract. Assumes nothing.
use native.Mathlib.Omega.{arith}
use borrow.Author.Tests.{lt-ltb, le-ltb}
use Rattle.ruletext.proofs.Lengths.{number_most}
use Rattle.tabletext.proofs.put_first.Goals as goal

pub put_decimal-requires : goal.put_decimal-requires
put_decimal-requires c =
    omega (arith, c.requires, number_most c.args.to.0 (omega (arith, c.if-to-lt-EMPTY.true)))

pub returns-then-to-lt-EMPTY : goal.returns-then-to-lt-EMPTY
returns-then-to-lt-EMPTY c =
    rw (lt-ltb c.args.to.0 512 c.if-to-lt-EMPTY.true) c.put_decimal.ensures

pub returns-else-to-lt-EMPTY : goal.returns-else-to-lt-EMPTY
returns-else-to-lt-EMPTY c =
    rw (le-ltb c.args.to.0 512 c.if-to-lt-EMPTY.false) c.put_byte.ensures
