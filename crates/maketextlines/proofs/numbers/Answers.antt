-- `numbers` meets its contract. Assumes nothing.
use Rattle.maketextlines.proofs.Readings.{great_length, all_three}
use Rattle.maketextlines.proofs.numbers.Goals as goal

pub returns-then-n-gt-TEXT : goal.returns-then-n-gt-TEXT
returns-then-n-gt-TEXT c =
    let a = c.args in
    great_length a.k.now a.seed.now a.length.now _ c.in_ok-symbols.ensures _ c.in_ok-from.ensures _ c.in_ok-n.ensures c.if-n-gt-TEXT.true

pub returns : goal.returns
returns c =
    let a = c.args in
    all_three a.k.now a.seed.now a.length.now _ c.in_ok-symbols.ensures _ c.in_ok-from.ensures _ c.in_ok-n.ensures c.if-n-gt-TEXT.false
