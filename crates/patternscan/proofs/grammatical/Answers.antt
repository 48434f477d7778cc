-- `grammatical` meets its contract: the test of the bytes from i on is the test of all. Assumes
-- nothing.
use mathlib.Core.Path.{refl}
use native.Mathlib.Omega.{arith}
use borrow.Author.Rules.{rules}
use Rattle.patternscan.proofs.Loops.{scan_more, scan_never, scan-end, deeper}
use Rattle.patternscan.proofs.grammatical.Goals as goal

pub loop-byte-init : goal.loop-byte-init
loop-byte-init c = (omega arith, omega arith, refl)

pub returns-in_default : goal.returns-in_default
returns-in_default c = search (rules, scan_never)

pub loop-byte-preserved : goal.loop-byte-preserved
loop-byte-preserved c = (omega arith, search (rules, deeper), search (rules, scan_more))

pub returns : goal.returns
returns c = search (rules, scan-end)
