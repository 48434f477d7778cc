-- `parse` meets its contract. Assumes nothing.
use native.Mathlib.Omega.{arith}
use borrow.Author.Rules.{rules}
use Rattle.maketextlines.specs.Lines.{line_means}
use Rattle.maketextlines.proofs.Readings.{no_space, one_space, two_spaces}
use Rattle.maketextlines.proofs.Writing.{prefix}
use Rattle.maketextlines.proofs.parse.Goals as goal

pub returns-then-line-first : goal.returns-then-line-first
returns-then-line-first c = search (rules, no_space)

pub returns-then-line-second : goal.returns-then-line-second
returns-then-line-second c = search (rules, one_space)

pub slice_bounds-numbers-end : goal.slice_bounds-numbers-end
slice_bounds-numbers-end c =
    let f = c.find-first in
    prefix f.result c.args.line.now (omega (arith, c.if-line-first.false))

pub returns : goal.returns
returns c =
    let w = c.args.line.now in
    let f = c.find-first in
    let g = c.find-second in
    two_spaces w f.result f.ensures c.if-line-first.false g.result g.ensures c.if-line-second.false (line_means c.numbers.result) c.numbers.ensures
