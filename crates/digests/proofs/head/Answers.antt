-- `head` meets its contract. Assumes nothing.
use Rattle.digests.proofs.head.Goals as goal

pub returns : goal.returns
returns c = cc
