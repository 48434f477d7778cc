-- `read_all` meets its contract: what is read, with the bytes from i on, gives the whole. Assumes
-- nothing.
use mathlib.Core.Path.{ap}
use native.Mathlib.Omega.{arith}
use borrow.Author.Rules.{rules}
use Rattle.patternreader.specs.declared.Reading.{Reading}
use Rattle.patternreader.specs.Reader.{after_bytes}
use Rattle.patternreader.proofs.Loops.{read_more, read_end}
use Rattle.patternreader.proofs.read_all.Goals as goal

pub loop-byte-init : goal.loop-byte-init
loop-byte-init c = (omega arith, ap (λ (x : Reading). after_bytes x c.args.bytes.now) c.begin-r.ensures)

pub loop-byte-preserved : goal.loop-byte-preserved
loop-byte-preserved c = (omega arith, search (rules, read_more))

pub returns : goal.returns
returns c = search (rules, read_end)
