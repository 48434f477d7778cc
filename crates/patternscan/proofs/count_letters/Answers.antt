-- `count_letters` meets its contract: the letters counted, with those from i on, are all. Assumes
-- nothing.
use native.Mathlib.Omega.{arith}
use borrow.Author.Rules.{rules}
use Rattle.patternscan.proofs.Loops.{count_more, count_end}
use Rattle.patternscan.proofs.count_letters.Goals as goal

pub loop-byte-init : goal.loop-byte-init
loop-byte-init c = (omega arith, omega arith, omega arith)

pub loop-byte-preserved : goal.loop-byte-preserved
loop-byte-preserved c = (omega arith, omega arith, search (rules, count_more))

pub returns : goal.returns
returns c = search (rules, count_end)
