-- `compose` meets its contract. Assumes nothing.
use Rattle.mapcalls.proofs.Ways.{composed}
use borrow.Author.Rules.{rules}
use Rattle.mapcalls.proofs.compose.Goals as goal

pub returns : goal.returns
returns c = search (rules, composed)
