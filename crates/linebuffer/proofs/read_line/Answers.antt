-- `read_line` meets its contract. Assumes nothing.
use Rattle.linebuffer.proofs.Standing.{held_line, held_stray}
use borrow.Author.Rules.{rules}
use Rattle.linebuffer.proofs.read_line.Goals as goal

pub returns-then-seen : goal.returns-then-seen
returns-then-seen c = search (rules, held_line)

pub returns : goal.returns
returns c = search (rules, held_stray)
